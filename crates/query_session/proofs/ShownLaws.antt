-- A table of a chain shows a core.
use Rattle.std.proofs.Common.{◌≡◌, ℕ, zero, suc, ◌+◌, ◌-◌, ◌<◌, ◌≤◌, List, [], ◌∷◌, length, map, take, get_or, slice_get, slice_index, Some, unwrap_or, refl, sym, ap, ◌∙◌, subst, arith, ⊎_elim}
use Rattle.std.specs.Option.{option_map_or}
use Rattle.std.proofs.lemmas.Bool.{cases_lt}
use mathlib.Core.Option.{some}
use lib.ListN.{get_elem?}
use Rattle.chain_core.specs.Core.{View, reach_of as core_reach}
use Rattle.chain_core.specs.MeasuredOf.{keys_at, measured_of}
use Rattle.event_detect.specs.declared.limits.Limits.{Limits}
use Rattle.interval_ledger.specs.declared.ledger.Ledger.{Ledger}
use Rattle.interval_ledger.specs.declared.subject.Subject.{Subject}
use Rattle.interval_ledger.specs.Ledger.{subject_of, view_of}
use Rattle.lanes.specs.declared.lane_item.LaneItem.{LaneItem}
use Rattle.lanes.specs.Lane.{lane_count, lane_items, lane_key, reach}
use Rattle.pq_base.specs.Recorded.{Recorded, sample_count}
use Rattle.pq_sequence.specs.SequentialResult.{sequential}
use Rattle.pq_words.specs.Steps.{numbers_from}
use Rattle.progress_words.specs.declared.pass_view.PassView.{PassView}
use Rattle.progress_words.specs.declared.pass_view.ReaderView.{ReaderView}
use Rattle.progress_words.specs.declared.pass_view.Role.{Role}
use Rattle.progress_words.specs.declared.pass_view.Role.TheVariants.{Raises, Reads}
use Rattle.progress_words.specs.Seat.{EachReader}
use Rattle.query_session.specs.Shown.{ShowsCores, loads_of, sessions_of, with_loads, with_session}

-- ---- the reach of a core is that of the recording

key_reach : (items : List LaneItem) (count n : ℕ) →
    option_map_or (λ key. key - 1) (slice_get (map lane_key items) count) n
    ≡ option_map_or (λ i. lane_key i - 1) (slice_get items count) n
key_reach [] count n = refl
key_reach (x ∷ items) zero n = refl
key_reach (x ∷ items) (suc count) n = key_reach items count n

keys_in : (f : ℕ → List ℕ) (start count lane : ℕ) → lane < count →
    get_or (map f (numbers_from start count)) lane [] ≡ f (start + lane)
unfolding numbers_from
keys_in f start zero lane inside = absurd (omega (arith, inside))
keys_in f start (suc count) zero inside = ap f {x = start} {y = start + 0} (omega arith)
keys_in f start (suc count) (suc lane) inside =
    keys_in f (start + 1) count lane (omega (arith, inside))
    ∙ ap f {x = start + 1 + lane} {y = start + suc lane} (omega arith)

reach_shown : (r : Recorded) (limits : Limits) (lane count : ℕ) → lane < lane_count r →
    core_reach (measured_of r limits) lane count ≡ reach r lane count
unfolding reach
reach_shown r limits lane count inside =
    ap (λ keys. option_map_or (λ key. key - 1) (slice_get keys count) (sample_count r))
    (keys_in (keys_at r) 0 (lane_count r) lane inside ∙ ap (keys_at r) {x = 0 + lane} {y = lane}
    (omega arith))
    ∙ key_reach (lane_items r lane) count (sample_count r)

-- ---- words

first_words : (n : ℕ) (words : List ℕ) (lane : ℕ) → lane < n →
    slice_index (take n words) lane ≡ slice_index words lane
first_words zero words lane inside = absurd (omega (arith, inside))
first_words (suc n) [] lane inside = refl
first_words (suc n) (w ∷ words) zero inside = refl
first_words (suc n) (w ∷ words) (suc lane) inside = first_words n words lane (omega (arith, inside))

many_words : (n : ℕ) (words : List ℕ) → n ≤ length words → length (take n words) ≡ n
many_words zero words l = refl
many_words (suc n) [] l = absurd (omega (arith, l))
many_words (suc n) (w ∷ words) l = ap suc (many_words n words (omega (arith, l)))

no_word : (words : List ℕ) (lane : ℕ) → length words ≤ lane → slice_index words lane ≡ 0
no_word [] lane l = refl
no_word (w ∷ words) zero l = absurd (omega (arith, l))
no_word (w ∷ words) (suc lane) l = no_word words lane (omega (arith, l))

-- ---- sessions

some_is : {X : Type 0} (x y : X) → Some x ≡ Some y → x ≡ y
some_is x y is = ap (λ o. unwrap_or o x) is

-- what holds of what each reader has read holds of each session
first_session : (Q : View → Type 0) (cursor : ℕ) (role : Role) (others : List View) →
    ((p : ReaderView) → role ≡ Reads p → Q (record { cursor = cursor; words = p.words_read })) →
    ((session : ℕ) (v : View) → slice_get others session ≡ Some v → Q v) →
    (session : ℕ) (v : View) → slice_get (with_session cursor role others) session ≡ Some v → Q v
first_session Q cursor (Reads p) others first later zero v is = subst Q (some_is _ v is) (first p refl)
first_session Q cursor (Reads p) others first later (suc session) v is = later session v is
first_session Q cursor (Raises p) others first later session v is = later session v is

each_session : (Q : View → Type 0) (cursors : ℕ → ℕ) (views : List (PassView Ledger Subject)) →
    ((seat : ℕ) (w : PassView Ledger Subject) (p : ReaderView) → get_elem? views seat ≡ some w →
    w.role ≡ Reads p → Q (record { cursor = cursors seat; words = p.words_read })) →
    (session : ℕ) (v : View) → slice_get (sessions_of cursors views) session ≡ Some v → Q v
each_session Q cursors [] each session v is = absurd (let bad : ⊥ = cc in bad)
each_session Q cursors (w ∷ views) each session v is =
    first_session Q (cursors 0) w.role (sessions_of (λ seat. cursors (suc seat)) views)
    (λ p reads. each 0 w p refl reads)
    (λ at u there. each_session Q (λ seat. cursors (suc seat)) views
    (λ seat x p found reads. each (suc seat) x p found reads) at u there) session v is

-- ---- loads

first_loads : (n : ℕ) (role : Role) (others : List (List ℕ)) →
    ((p : ReaderView) → role ≡ Reads p → length p.loads ≡ n) →
    ((session : ℕ) (counts : List ℕ) → slice_get others session ≡ Some counts → length counts ≡ n) →
    (session : ℕ) (counts : List ℕ) → slice_get (with_loads role others) session ≡ Some counts →
    length counts ≡ n
first_loads n (Reads p) others first later zero counts is =
    sym (ap (λ o. length (unwrap_or o counts)) is) ∙ first p refl
first_loads n (Reads p) others first later (suc session) counts is = later session counts is
first_loads n (Raises p) others first later session counts is = later session counts is

-- each session has a number of loads of each lane
each_loads : (n : ℕ) (views : List (PassView Ledger Subject)) →
    EachReader views (λ _ p. length p.loads ≡ n) →
    (session : ℕ) (counts : List ℕ) → slice_get (loads_of views) session ≡ Some counts → length counts ≡ n
each_loads n [] each session counts is = absurd (let bad : ⊥ = cc in bad)
each_loads n (w ∷ views) each session counts is =
    first_loads n w.role (loads_of views) (λ p reads. each 0 w refl p reads)
    (λ at others there. each_loads n views
    (λ seat x found p reads. each (suc seat) x found p reads) at others there) session counts is

many_first : (cursor : ℕ) (role : Role) (loads : List (List ℕ)) (others : List View) →
    length loads ≡ length others →
    length (with_loads role loads) ≡ length (with_session cursor role others)
many_first cursor (Reads p) loads others many = ap suc many
many_first cursor (Raises p) loads others many = many

many_loads : (cursors : ℕ → ℕ) (views : List (PassView Ledger Subject)) →
    length (loads_of views) ≡ length (sessions_of cursors views)
many_loads cursors [] = refl
many_loads cursors (w ∷ views) =
    let others : ℕ → ℕ = λ seat. cursors (suc seat) in
    many_first (cursors 0) w.role (loads_of views) (sessions_of others views) (many_loads others views)

-- ---- the law

pub shows : ShowsCores
shows r limits opening s cursors p named rule within many =
    let n : ℕ = lane_count r in
    let u : Ledger = rule.standing.value in
    let of_u : subject_of u ≡ record { recording = r; limits = limits } = rule.one_name.value ∙ named in
    let same : (view_of u).recording ≡ r = ap (λ (x : Subject). x.recording) of_u in
    let long : length (take n s.words) ≡ n = many_words n s.words (omega (arith, rule.shape.words)) in
    let reached : (lane : ℕ) → lane < n →
    core_reach (measured_of r limits) lane (slice_index (view_of u).counts lane)
    ≡ reach (view_of u).recording lane (slice_index (view_of u).counts lane) =
    (λ lane l. reach_shown r limits lane (slice_index (view_of u).counts lane) l
    ∙ ap (λ (x : Recorded). reach x lane (slice_index (view_of u).counts lane)) (sym same)) in record {
      ledger = u;
      named = of_u;
      names = λ seat v at. rule.one_name.passes seat v at ∙ named;
      at_home = rule.value;
      out = λ seat v at z is. rule.turn.same seat v at z is;
      raised = λ seat v at lane is. rule.lanes.words seat v at lane is;
      sound = record {
        words = λ lane. ⊎_elim
            (λ (l : lane < n). let a = first_words n s.words lane l in let b = rule.reaches.words lane l in
            let e = reached lane l in omega (arith, a, b, e))
            (λ (l : n ≤ lane). let none = no_word (take n s.words) lane (omega (arith, long, l)) in
            omega (arith, none))
            (cases_lt lane n);
        read = λ session lane v is. each_session
            (λ w. slice_index w.words lane ≤ slice_index (take n s.words) lane)
            cursors s.views
            (λ seat w q at reads. ⊎_elim
            (λ (l : lane < n). let a = first_words n s.words lane l in
            let b = rule.reaches.reads seat w at q reads lane l in omega (arith, a, b))
            (λ (l : n ≤ lane). let size = rule.shape.reads seat w at q reads in
            let none = no_word q.words_read lane (omega (arith, size, l)) in omega (arith, none))
            (cases_lt lane n)) session v is;
        mark = λ lane l. let inside : lane < n = omega (arith, long, l) in
            let a = u.posted.within lane (subst (λ (x : Recorded). lane < lane_count x) (sym same) inside) in
            let e = reached lane inside in omega (arith, a, e);
        cursors = λ session v is. each_session (λ w. w.cursor ≤ length (sequential r limits)) cursors s.views
            (λ seat w q at reads. within seat) session v is;
        lanes = λ session v is. each_session (λ w. length w.words ≡ length (take n s.words)) cursors s.views
            (λ seat w q at reads. rule.shape.reads seat w at q reads ∙ sym long) session v is;
        sessions = sym many;
      };
      sessions = many_loads cursors s.views ∙ sym many;
      loads = each_loads n s.views rule.shape.loads;
    }
