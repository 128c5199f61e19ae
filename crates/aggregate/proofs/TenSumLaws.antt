-- What the machine for 10-minute intervals keeps agrees with what it was fed, and goes on to.
use Rattle.std.proofs.Common.{◌≡◌, ◌⊎◌, ℕ, suc, ◌+◌, ◌<◌, true, false, cond, ◌&&◌, nat_lt, nat_le, List, [], ◌∷◌, ◌++◌, length, Option, Some, None, option_and_then, option_to_list, append_assoc, refl, sym, ◌∙◌, ap, subst, inl, inr, arith}
use Rattle.std.specs.List.{AllByRecursion}
use Rattle.std.proofs.lemmas.Bool.{cases_Bool}
use Rattle.std.proofs.lemmas.List.{length-append, length-map, map-append}
use Rattle.std.proofs.lemmas.List.Elements.{All-from_recursion, recursion_from_All, All-push}
use Rattle.pq_time.specs.declared.clock.Clock.{Clock}
use Rattle.aggregate.specs.declared.group.Group.{Group}
use Rattle.aggregate.specs.declared.ten.TenMinutes.{TenMinutes}
use Rattle.aggregate.specs.Aggregation.{Basic, group_of, parts_of, ten_groups}
use Rattle.aggregate.specs.BasicOrder.{AreBasics, IsBasic, BeginsAtFront}
use Rattle.aggregate.specs.Sum.{Adds, SumView, HasSummed}
use Rattle.aggregate.specs.TenSum.{TenView, HasBegun, HasSeen, KeepsSetting, MayFollow, IsFed, IsInSegment, Completes, SeesMore, completed, minutes_at}
use Rattle.aggregate.proofs.FollowLaws.{AreLinked, FollowFrom, follow_after, linked}
use Rattle.aggregate.proofs.TenStepLaws.{first_completes, next_completes}

-- ---- a basic interval that begins a segment

pub front_completes : (t : TenView) (b : Basic) (answer : Option Group) → b.front ≡ true
    → answer ≡ option_and_then (completed t.channels b (b ∷ [])) (minutes_at t.clock t.samples b.part.start)
    → Completes t b answer
front_completes t b answer begins is fed seen basics =
    first_completes t.clock t.samples t.channels fed b (linked t.clock t.samples
    (fed ++ b ∷ []) basics.follow) begins
    ∙ ap (λ o. ten_groups t.clock t.samples t.channels fed ++ option_to_list o) (sym is)

pub front_sees : (old new : TenView) (b : Basic) → b.front ≡ true → new.clock ≡ old.clock
    → new.samples ≡ old.samples → HasSummed new.sum (b.part ∷ [])
    → new.minutes ≡ minutes_at old.clock old.samples b.part.start → SeesMore old new b
front_sees old new b begins clock samples summed minutes fed seen basics =
    inr (
      fed,
      b,
      [],
      record {
        parts = refl;
        begins = begins;
        goes_on = All-from_recursion (λ b. b.front ≡ false) [] tt;
        summed = summed;
        minutes =
            minutes ∙ ap (λ c. minutes_at c old.samples b.part.start) (sym clock)
            ∙ ap (λ n. minutes_at new.clock n b.part.start) (sym samples);
      },
    )

-- ---- one that goes on with it

-- the first of a list begins a segment
not_first : (b : Basic) (fed : List Basic) → b.front ≡ false → fed ≡ [] → BeginsAtFront (fed ++ b ∷ []) → ⊥
not_first b fed goes_on none first =
    let begins : BeginsAtFront (b ∷ []) = subst (λ bs. BeginsAtFront (bs ++ b ∷ [])) none first in
    let e : true ≡ false = sym begins ∙ goes_on in
    absurd (let bad : ⊥ = cc in bad)

-- the list with the next one
pushed : (fed before : List Basic) (f : Basic) (rest : List Basic) (b : Basic) → fed ≡ before ++ f ∷ rest
    → fed ++ b ∷ [] ≡ before ++ f ∷ (rest ++ b ∷ [])
pushed fed before f rest b is = ap (λ bs. bs ++ b ∷ []) is ∙ append_assoc before (f ∷ rest) (b ∷ [])

pub next_completes_one : (t : TenView) (b : Basic) (answer : Option Group) → b.front ≡ false
    → ((before : List Basic) (f : Basic) (rest : List Basic) (fed : List Basic)
    → IsInSegment t fed before f rest
    → answer ≡ option_and_then (completed t.channels b (f ∷ (rest ++ b ∷ []))) t.minutes)
    → Completes t b answer
next_completes_one t b answer goes_on is fed (inl none) basics = absurd
    (not_first b fed goes_on none basics.first)
next_completes_one t b answer goes_on is fed (inr seen) basics =
    let before = seen.0 in
    let f = seen.1 in
    let rest = seen.2 in
    let s = seen.3 in
    let whole = pushed fed before f rest b s.parts in
    let follow = subst (λ bs. AreLinked t.clock t.samples bs) whole
    (linked t.clock t.samples (fed ++ b ∷ []) basics.follow) in
    ap (ten_groups t.clock t.samples t.channels) whole
    ∙ next_completes t.clock t.samples t.channels before f rest b follow s.begins
    (recursion_from_All (λ b. b.front ≡ false) rest s.goes_on) goes_on
    ∙ ap (λ m. ten_groups t.clock t.samples t.channels (before ++ f ∷ rest)
    ++ option_to_list (option_and_then (completed t.channels b (f ∷ (rest ++ b ∷ []))) m)) (sym s.minutes)
    ∙ ap (λ o. ten_groups t.clock t.samples t.channels (before ++ f ∷ rest) ++ option_to_list o)
    (sym (is before f rest fed s))
    ∙ ap (λ bs. ten_groups t.clock t.samples t.channels bs ++ option_to_list answer) (sym s.parts)

pub next_sees : (old new : TenView) (b : Basic) → b.front ≡ false → new.clock ≡ old.clock
    → new.samples ≡ old.samples → new.minutes ≡ old.minutes
    → ((before : List Basic) (f : Basic) (rest : List Basic) (fed : List Basic)
    → IsInSegment old fed before f rest
    → HasSummed new.sum (parts_of (f ∷ (rest ++ b ∷ []))))
    → SeesMore old new b
next_sees old new b goes_on clock samples minutes summed fed (inl none) basics =
    absurd (not_first b fed goes_on none basics.first)
next_sees old new b goes_on clock samples minutes summed fed (inr seen) basics =
    let before = seen.0 in
    let f = seen.1 in
    let rest = seen.2 in
    let s = seen.3 in
    inr (
      before,
      f,
      rest ++ b ∷ [],
      record {
        parts = pushed fed before f rest b s.parts;
        begins = s.begins;
        goes_on = All-push (λ b. b.front ≡ false) rest b s.goes_on goes_on;
        summed = summed before f rest fed s;
        minutes =
            minutes ∙ s.minutes ∙ ap (λ c. minutes_at c old.samples f.part.start) (sym clock)
            ∙ ap (λ n. minutes_at new.clock n f.part.start) (sym samples);
      },
    )

-- ---- a step: the machine begins a segment or goes on with one, and adds the basic interval to its sum

-- the sum with the last one of its segment
summed_push : (old new : SumView) (f : Basic) (rest : List Basic) (b : Basic) → Adds old new b.part
    → HasSummed old (parts_of (f ∷ rest)) → HasSummed new (parts_of (f ∷ (rest ++ b ∷ [])))
summed_push old new f rest b adds summed =
    subst (HasSummed new) (sym (map-append (λ b. b.part) (f ∷ rest) (b ∷ []))) (adds (parts_of
    (f ∷ rest)) summed)

module _ (old mid : TenView) (sum : SumView) (b : Basic) (setting : KeepsSetting old mid)
    (begun : b.front ≡ true → HasBegun mid b.part.start) (stays : b.front ≡ false → mid ≡ old)
    (adds : Adds mid.sum sum b.part) where
  -- the ten minutes are those of the place where the segment begins
  begun_minutes : b.front ≡ true → mid.minutes ≡ minutes_at old.clock old.samples b.part.start
  begun_minutes is =
      (begun is).minutes ∙ ap (λ c. minutes_at c mid.samples b.part.start) setting.same_clock
      ∙ ap (λ n. minutes_at old.clock n b.part.start) setting.same_samples

  pub step_completes : (answer : Option Group) → ((segment : List Basic) → HasSummed sum (parts_of segment)
      → answer ≡ option_and_then (completed old.channels b segment) mid.minutes) → Completes old b answer
  step_completes answer told = at (cases_Bool b.front)
    where
      at : (b.front ≡ true) ⊎ (b.front ≡ false) → Completes old b answer
      at (inl is) = front_completes old b answer is
          (told (b ∷ []) (adds [] (begun is).summed) ∙ ap (option_and_then (completed old.channels b
          (b ∷ []))) (begun_minutes is))
      at (inr is) = next_completes_one old b answer is (λ before f rest fed s.
          told (f ∷ (rest ++ b ∷ []))
          (summed_push mid.sum sum f rest b adds
          (subst (λ (v : TenView). HasSummed v.sum (parts_of (f ∷ rest))) (sym (stays is)) s.summed))
          ∙ ap (λ (v : TenView). option_and_then (completed old.channels b (f ∷
          (rest ++ b ∷ []))) v.minutes) (stays is))

  pub step_sees : (new : TenView) → KeepsSetting old new → new.sum ≡ sum → new.minutes ≡ mid.minutes
      → SeesMore old new b
  step_sees new keeps sum_is minutes_is = at (cases_Bool b.front)
    where
      at : (b.front ≡ true) ⊎ (b.front ≡ false) → SeesMore old new b
      at (inl is) = front_sees old new b is keeps.same_clock keeps.same_samples
          (subst (λ s. HasSummed s (b.part ∷ [])) (sym sum_is) (adds [] (begun is).summed))
          (minutes_is ∙ begun_minutes is)
      at (inr is) = next_sees old new b is keeps.same_clock keeps.same_samples
          (minutes_is ∙ ap (λ (v : TenView). v.minutes) (stays is))
          (λ before f rest fed s. subst (λ s. HasSummed s (parts_of (f ∷ (rest ++ b ∷ [])))) (sym sum_is)
          (summed_push mid.sum sum f rest b adds
          (subst (λ (v : TenView). HasSummed v.sum (parts_of (f ∷ rest))) (sym (stays is)) s.summed)))

-- ---- room for one more

begun_in : (clock : Clock) (n : ℕ) (a : Basic) (bs : List Basic) → FollowFrom clock n a bs
    → AllByRecursion (λ b. b.part.start < n) (a ∷ bs) → a.part.start + length bs < n
begun_in clock n a [] h each = let less = each.0 in omega (arith, less)
begun_in clock n a (b ∷ bs) h each =
    let rest = begun_in clock n b bs h.1 each.1 in
    let step = h.0.starts in
    omega (arith, rest, step)

starts_in : (n channels : ℕ) (bs : List Basic) → AllByRecursion (IsBasic n channels) bs
    → AllByRecursion (λ b. b.part.start < n) bs
starts_in n channels [] h = tt
starts_in n channels (b ∷ bs) h =
    let some = h.0.some in
    let within = h.0.within in
    (omega (arith, some, within), starts_in n channels bs h.1)

all_after : {X : Type 0} (P : X → Type 0) (xs ys : List X) → AllByRecursion P (xs ++ ys) → AllByRecursion P ys
all_after P [] ys h = h
all_after P (x ∷ xs) ys h = all_after P xs ys h.1

-- the last of some is one
pub last_basic : (clock : Clock) (n channels : ℕ) (fed : List Basic) (b : Basic)
    → AreBasics clock n channels (fed ++ b ∷ []) → IsBasic n channels b
last_basic clock n channels fed b basics =
    (all_after (IsBasic n channels) fed (b ∷ []) (recursion_from_All (IsBasic n channels)
    (fed ++ b ∷ []) basics.each)).0

-- a segment that one more may follow has fewer basic intervals than there are samples
pub room_in : (t : TenView) (b : Basic) → b.front ≡ false → MayFollow t b → t.sum.count < t.samples
room_in t b goes_on may = at may.0 may.1 may.2
  where
    at : (fed : List Basic) → HasSeen t fed → IsFed t (fed ++ b ∷ []) → t.sum.count < t.samples
    at fed (inl none) basics = absurd (not_first b fed goes_on none basics.first)
    at fed (inr seen) basics =
        let before = seen.0 in
        let f = seen.1 in
        let rest = seen.2 in
        let s = seen.3 in
        let whole = pushed fed before f rest b s.parts in
        let follow = follow_after t.clock t.samples before f (rest ++ b ∷ [])
        (subst (λ bs. AreLinked t.clock t.samples bs) whole
        (linked t.clock t.samples (fed ++ b ∷ []) basics.follow)) in
        let each = starts_in t.samples t.channels (f ∷ (rest ++ b ∷ [])) (all_after
        (IsBasic t.samples t.channels)
        before (f ∷ (rest ++ b ∷ [])) (subst (λ bs. AllByRecursion (IsBasic t.samples t.channels) bs) whole
        (recursion_from_All (IsBasic t.samples t.channels) (fed ++ b ∷ []) basics.each))) in
        let less = begun_in t.clock t.samples f (rest ++ b ∷ []) follow each in
        let number = s.summed.number in
        let many : length (parts_of (f ∷ rest)) ≡ suc (length rest) = length-map (f ∷ rest) (λ b. b.part) in
        let more : length (rest ++ b ∷ []) ≡ length rest + 1 = length-append rest (b ∷ []) in
        omega (arith, less, number, many, more)

-- ---- what it answers

pub told_none : (channels : ℕ) (b : Basic) (segment : List Basic) (o : Option TenMinutes)
    (answer : Option Group)
    → o ≡ None → answer ≡ None → answer ≡ option_and_then (completed channels b segment) o
told_none channels b segment o answer none is = is
    ∙ sym (ap (option_and_then (completed channels b segment)) none)

pub told_missed : (channels : ℕ) (b : Basic) (segment : List Basic) (m : TenMinutes) (o : Option TenMinutes)
    → o ≡ Some m → (nat_lt b.part.start m.next && nat_le m.next b.part.end) ≡ false
    → None ≡ option_and_then (completed channels b segment) o
told_missed channels b segment m o some missed =
    sym (ap (option_and_then (completed channels b segment)) some
    ∙ ap (λ c. cond c (Some (group_of (Some m.tick) channels (parts_of segment))) None) missed)

pub told_reached : (channels : ℕ) (b : Basic) (segment : List Basic) (m : TenMinutes) (o : Option TenMinutes)
    (g : Group) → o ≡ Some m → (nat_lt b.part.start m.next && nat_le m.next b.part.end) ≡ true
    → g ≡ group_of (Some m.tick) channels (parts_of segment)
    → Some g ≡ option_and_then (completed channels b segment) o
told_reached channels b segment m o g some reached is =
    ap Some is
    ∙ sym (ap (option_and_then (completed channels b segment)) some
    ∙ ap (λ c. cond c (Some (group_of (Some m.tick) channels (parts_of segment))) None) reached)
