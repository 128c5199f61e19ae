-- Over a whole list an aggregator gives the intervals of the list.
use Rattle.std.proofs.Common.{◌≡◌, ℕ, zero, suc, ◌+◌, ◌<◌, cond, ◌==◌, List, [], ◌∷◌, ◌++◌, length, find, flat_map, filter_map, map, drop, ℤ, Option, Some, None, option_to_list, slice_get, take, get_or, refl, sym, ◌∙◌, ap, subst, append_assoc, arith}
use Rattle.std.specs.List.{cons_option}
use Rattle.std.proofs.Math.Seq.{append_snoc}
use Rattle.std.proofs.lemmas.List.{append-nil, get_or_append_left, length-append, take-append-drop, take_more}
use Rattle.std.proofs.lemmas.Option.{slice_get_within}
use Rattle.aggregate.specs.declared.group.Group.{Group}
use Rattle.aggregate.specs.declared.group.Out.{Out}
use Rattle.aggregate.specs.Aggregation.{Basic, as_part, group_of, has_tick, segment_of, short_groups, ten_group, ten_groups, tick_pairs, two_hour_group, two_hour_groups}
use Rattle.aggregate.specs.Aggregator.{AddsGroups, AggregatorView, HasSeen, IsFed}
use Rattle.aggregate.specs.BasicOrder.{AreBasics, BeginsAtFront, IsBasic}
use Rattle.aggregate.specs.WholeList.{AreGroups, GivesGroups, StepsOver}
use Rattle.pq_time.specs.declared.clock.Clock.{Clock}
use Rattle.pq_time.specs.Tick.{ticks}
use Rattle.pq_words.specs.First.{first_between, first_of}
use Rattle.pq_words.specs.Steps.{numbers_from, steps_from}
use Rattle.ten_twelve.specs.Run.{runs}

-- ---- no basic intervals

none_kept : {X Y : Type 0} (f : X → Option Y) (xs : List X) → ((x : X) → f x ≡ None) → filter_map f xs ≡ []
none_kept f [] none = refl
none_kept f (x ∷ xs) none = ap (λ o. cons_option o (filter_map f xs)) (none x) ∙ none_kept f xs none

no_short : (channels : ℕ) → [] ≡ short_groups channels []
unfolding short_groups runs numbers_from
no_short channels = refl

no_ten : (clock : Clock) (n channels : ℕ) (tick next : ℤ) → ten_group clock n channels [] tick next ≡ None
unfolding ten_group segment_of first_between first_of
no_ten clock n channels tick next = refl

pub no_tens : (clock : Clock) (n channels : ℕ) → ten_groups clock n channels [] ≡ []
unfolding ten_groups
no_tens clock n channels = none_kept (λ p. ten_group clock n channels [] p.0 p.1) (tick_pairs clock n 600)
    (λ p. no_ten clock n channels p.0 p.1)

no_two : (channels : ℕ) (tick : ℤ) → two_hour_group channels [] tick ≡ None
unfolding two_hour_group
no_two channels tick =
    ap (λ gs. cond (length gs == 12) (Some (group_of (Some tick) channels (map as_part gs))) None)
    (none_kept (λ t. find (has_tick t) []) (steps_from tick 600 12) (λ t. refl))

no_twos : (clock : Clock) (n channels : ℕ) → []
    ≡ two_hour_groups clock n channels (ten_groups clock n channels [])
unfolding two_hour_groups
no_twos clock n channels =
    sym (none_kept (two_hour_group channels []) (ticks clock n 7200) (no_two channels))
    ∙ ap (two_hour_groups clock n channels) (sym (no_tens clock n channels))

no_groups : (clock : Clock) (n channels : ℕ) → AreGroups clock n channels [] []
no_groups clock n channels = record {
  short = no_short channels;
  ten = sym (no_tens clock n channels);
  two = no_twos clock n channels;
}

-- ---- the first ones of a list in order

get_left : {X : Type 0} (xs ys : List X) (k : ℕ) → k < length xs → slice_get (xs ++ ys) k ≡ slice_get xs k
get_left [] ys k inside = absurd (omega (arith, inside))
get_left (x ∷ xs) ys zero inside = refl
get_left (x ∷ xs) ys (suc k) inside = get_left xs ys k (omega (arith, inside))

earlier : (clock : Clock) (n channels : ℕ) (front rest : List Basic)
    → AreBasics clock n channels (front ++ rest) → AreBasics clock n channels front
earlier clock n channels front rest are = record {
  first = begins front are.first;
  each = λ k d inside. subst (IsBasic n channels) (get_or_append_left front rest d k inside)
      (are.each k d (omega (arith, inside, length-append front rest)));
  follow = λ i a b here next.
      are.follow i a b (get_left front rest i (slice_get_within front i a here) ∙ here)
      (get_left front rest (i + 1) (slice_get_within front (i + 1) b next) ∙ next);
}
  where
    begins : (front : List Basic) → BeginsAtFront (front ++ rest) → BeginsAtFront front
    begins [] h = tt
    begins (b ∷ bs) h = h

fed_to : (basics : List Basic) (a : AggregatorView) (i : ℕ) (d : Basic) → i < length basics → IsFed a basics
    → IsFed a (take i basics ++ get_or basics i d ∷ [])
fed_to basics a i d inside are =
    subst (IsFed a) (take_more basics i d inside)
    (earlier a.clock a.samples a.channels (take (i + 1) basics) (drop (i + 1) basics)
    (subst (IsFed a) (sym (take-append-drop (i + 1) basics)) are))

-- ---- an aggregator that steps over a list

-- the intervals of the front, and then the answers, are those of both lists
abbrev Given : Clock → ℕ → ℕ → List Basic → List Basic → List Out → Type 0
Given clock n channels front es outs =
    (short_groups channels front ++ flat_map (λ (o : Out). option_to_list o.short) outs
    ≡ short_groups channels (front ++ es))
    × (ten_groups clock n channels front ++ flat_map (λ (o : Out). option_to_list o.ten) outs
    ≡ ten_groups clock n channels (front ++ es))
    × (two_hour_groups clock n channels (ten_groups clock n channels front)
    ++ flat_map (λ (o : Out). option_to_list o.two) outs
    ≡ two_hour_groups clock n channels (ten_groups clock n channels (front ++ es)))

-- one answer more
joined : (f : List Basic → List Group) (front es : List Basic) (e : Basic) (here : Option Group)
    (rest : List Group)
    → f (front ++ e ∷ []) ≡ f front ++ option_to_list here
    → f (front ++ e ∷ []) ++ rest ≡ f ((front ++ e ∷ []) ++ es)
    → f front ++ (option_to_list here ++ rest) ≡ f (front ++ e ∷ es)
joined f front es e here rest one later =
    sym (append_assoc (f front) (option_to_list here) rest) ∙ ap (λ gs. gs ++ rest) (sym one) ∙ later
    ∙ ap f (append_snoc front e es)

gives_from : (front es : List Basic) (a last : AggregatorView) (outs : List Out) → HasSeen a front
    → IsFed a (front ++ es) → StepsOver a es outs last
    → Given a.clock a.samples a.channels front es outs × HasSeen last (front ++ es)
gives_from front [] a last [] seen are steps =
    let all : front ≡ front ++ [] = sym (append-nil front) in
    let short : List Basic → List Group = λ bs. short_groups a.channels bs in
    let ten : List Basic → List Group = λ bs. ten_groups a.clock a.samples a.channels bs in
    let two : List Basic → List Group = λ bs. two_hour_groups a.clock a.samples a.channels (ten bs) in (
      (
        append-nil (short front) ∙ ap short all,
        append-nil (ten front) ∙ ap ten all,
        append-nil (two front) ∙ ap two all,
      ),
      subst (HasSeen last) all (subst (λ l. HasSeen l front) (sym steps) seen),
    )
gives_from front [] a last (out ∷ more) seen are steps = absurd steps
gives_from front (e ∷ es) a last [] seen are steps = absurd steps
gives_from front (e ∷ es) a last (out ∷ more) seen are steps =
    let next : AggregatorView = steps.0 in
    let keeps = steps.3 in
    let whole : (front ++ e ∷ []) ++ es ≡ front ++ e ∷ es = append_snoc front e es in
    let are_whole : IsFed a ((front ++ e ∷ []) ++ es) = subst (IsFed a) (sym whole) are in
    let fed : IsFed a (front ++ e ∷ []) = earlier a.clock a.samples a.channels (front
    ++ e ∷ []) es are_whole in
    let one : AddsGroups a front (front ++ e ∷ []) out = steps.1 front seen fed in
    let fits : Clock → ℕ → ℕ → Type 0 = λ clock n channels. AreBasics clock n channels ((front
    ++ e ∷ []) ++ es) in
    let are_next : IsFed next ((front ++ e ∷ []) ++ es) =
    subst (λ channels. fits next.clock next.samples channels) (sym keeps.same_channels)
    (subst (λ n. fits next.clock n a.channels) (sym keeps.same_samples)
    (subst (λ clock. fits clock a.samples a.channels) (sym keeps.same_clock) are_whole)) in
    let rest = gives_from (front ++ e ∷ []) es next last more (steps.2 front seen fed) are_next steps.4 in
    let P : Clock → ℕ → ℕ → Type 0 = λ clock n channels. Given clock n channels (front ++ e ∷ []) es more in
    let later : Given a.clock a.samples a.channels (front ++ e ∷ []) es more =
    subst (λ channels. P a.clock a.samples channels) keeps.same_channels
    (subst (λ n. P a.clock n next.channels) keeps.same_samples
    (subst (λ clock. P clock next.samples next.channels) keeps.same_clock rest.0)) in
    let ten : List Basic → List Group = λ bs. ten_groups a.clock a.samples a.channels bs in (
      (
        joined (λ bs. short_groups a.channels bs) front es e out.short
            (flat_map (λ (o : Out). option_to_list o.short) more) one.short later.0,
        joined ten front es e out.ten (flat_map (λ (o : Out). option_to_list o.ten) more) one.ten later.1,
        joined (λ bs. two_hour_groups a.clock a.samples a.channels (ten bs)) front es e out.two
            (flat_map (λ (o : Out). option_to_list o.two) more) one.two later.2,
      ),
      subst (HasSeen last) whole rest.1,
    )

pub gives_groups : GivesGroups
gives_groups = record {
  all = λ basics first last outs seen are steps.
      let given = (gives_from [] basics first last outs seen are steps).0 in
      let none = no_groups first.clock first.samples first.channels in record {
        short = ap (λ gs. gs ++ flat_map (λ (o : Out). option_to_list o.short) outs) none.short ∙ given.0;
        ten = ap (λ gs. gs ++ flat_map (λ (o : Out). option_to_list o.ten) outs) none.ten ∙ given.1;
        two = ap (λ gs. gs ++ flat_map (λ (o : Out). option_to_list o.two) outs) none.two ∙ given.2;
      };
  seen = λ basics first last outs seen are steps. (gives_from [] basics first last outs seen are steps).1;
  follows = λ basics a i d inside are seen. (take i basics, seen, fed_to basics a i d inside are);
  adds = λ basics a i d out inside are seen completes.
      subst (λ after. AddsGroups a (take i basics) after out) (sym (take_more basics i d inside))
      (completes (take i basics) seen (fed_to basics a i d inside are));
  sees = λ basics a next i d inside are seen more.
      subst (HasSeen next) (sym (take_more basics i d inside))
      (more (take i basics) seen (fed_to basics a i d inside are));
  earlier = earlier;
  none = no_groups;
}
