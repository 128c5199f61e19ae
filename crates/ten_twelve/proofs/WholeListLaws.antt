-- Over a whole list a chopper gives its runs, each at its last element.
use Rattle.std.proofs.Common.{◌≡◌, ℕ, zero, suc, ◌+◌, ◌-◌, ◌≤◌, List, [], ◌∷◌, ◌++◌, flat_map, map, Option, Some, None, option_map, option_to_list, slice_get, refl, sym, ◌∙◌, ap, subst, append_assoc}
use Rattle.std.proofs.Math.Seq.{append_snoc}
use Rattle.std.proofs.lemmas.List.{append-nil, append_cancel_left}
use Rattle.ten_twelve.specs.declared.span.Span.{Span}
use Rattle.ten_twelve.specs.Chopper.{ChopperView, IsFed, HasSeen}
use Rattle.ten_twelve.specs.Unfinished.{oldest_whole}
use Rattle.ten_twelve.specs.Run.{Element, PendingRun, begins_run, fronts, marked, run_from, runs, spanned, chopped}
use Rattle.ten_twelve.specs.WholeList.{MayAllFollow, StepsOver, GivesRuns}
use Rattle.ten_twelve.proofs.NumberLemmas.{filter_nothing}
use Rattle.ten_twelve.proofs.PendingLaws.{counted, completed, chopped_push}

-- stepped over more elements, a chopper gives their runs
gives_from : (m : ℕ) (front es : List Element) (c last : ChopperView) (answers : List (Option Span))
    → c.length ≡ m → HasSeen c front → MayAllFollow m front es → StepsOver c es answers last
    → chopped m front ++ flat_map option_to_list answers ≡ chopped m (front ++ es)
gives_from m front [] c last [] is seen fed steps = append-nil (chopped m front)
    ∙ ap (chopped m) (sym (append-nil front))
gives_from m front [] c last (a ∷ more) is seen fed steps = absurd steps
gives_from m front (e ∷ es) c last [] is seen fed steps = absurd steps
gives_from m front (e ∷ es) c last (a ∷ more) is seen fed steps =
    let may : IsFed c.length (front ++ e ∷ []) = subst (λ n. IsFed n (front ++ e ∷ [])) (sym is) fed.0 in
    let one : chopped m (front ++ e ∷ []) ≡ chopped m front ++ option_to_list a =
    subst (λ n. chopped n (front ++ e ∷ []) ≡ chopped n front ++ option_to_list a) is
    (steps.1 front seen may) in
    sym (append_assoc (chopped m front) (option_to_list a) (flat_map option_to_list more))
    ∙ ap (λ rs. rs ++ flat_map option_to_list more) (sym one)
    ∙ gives_from m (front ++ e ∷ []) es steps.0 last more (steps.3 ∙ is) (steps.2 front seen may) fed.1
    steps.4
    ∙ ap (chopped m) (append_snoc front e es)

-- a run that is completed ends with the element
ends_there : (o : Option PendingRun) (e : Element) (run : Span) → option_to_list (Some run)
    ≡ option_to_list (option_map (completed e) o) → run.end ≡ e.span.end
ends_there None e run same = absurd (let bad : ⊥ = cc in bad)
ends_there (Some p) e run same = let is : run ≡ completed e p = cc in ap (λ (s : Span). s.end) is

ends_there_from : (m : ℕ) (front es : List Element) (c last : ChopperView) (answers : List (Option Span))
    (k : ℕ) (at : Element) (run : Span) → 1 ≤ m → c.length ≡ m → HasSeen c front → MayAllFollow m front es
    → StepsOver c es answers last → slice_get es k ≡ Some at → slice_get answers k ≡ Some (Some run) → run.end
    ≡ at.span.end
ends_there_from m front [] c last answers k at run some is seen fed steps there given =
    absurd (let bad : ⊥ = cc in bad)
ends_there_from m front (e ∷ es) c last [] k at run some is seen fed steps there given = absurd steps
ends_there_from m front (e ∷ es) c last (a ∷ more) zero at run some is seen fed steps there given =
    let may : IsFed c.length (front ++ e ∷ []) = subst (λ n. IsFed n (front ++ e ∷ [])) (sym is) fed.0 in
    let one : chopped m (front ++ e ∷ []) ≡ chopped m front ++ option_to_list a =
    subst (λ n. chopped n (front ++ e ∷ []) ≡ chopped n front ++ option_to_list a) is
    (steps.1 front seen may) in
    let answer : a ≡ Some run = cc in
    let same_element : e ≡ at = cc in
    let same : option_to_list (Some run) ≡ option_to_list
    (option_map (completed e) (oldest_whole m (counted m front e))) =
    ap option_to_list (sym answer) ∙ append_cancel_left (chopped m front) (option_to_list a)
    (option_to_list (option_map (completed e) (oldest_whole m (counted m front e))))
    (sym one ∙ chopped_push front e m some) in
    ends_there (oldest_whole m (counted m front e)) e run same ∙ ap (λ (x : Element). x.span.end) same_element
ends_there_from m front (e ∷ es) c last (a ∷ more) (suc k) at run some is seen fed steps there given =
    let may : IsFed c.length (front ++ e ∷ []) = subst (λ n. IsFed n (front ++ e ∷ [])) (sym is) fed.0 in
    ends_there_from m (front ++ e ∷ []) es steps.0 last more k at run some (steps.3 ∙ is)
    (steps.2 front seen may) fed.1 steps.4 there given

-- there is no run of no element
none_chopped : (m : ℕ) → chopped m [] ≡ []
unfolding chopped runs marked
none_chopped m = ap (λ xs. map (spanned []) (map (run_from m) xs))
    (filter_nothing (begins_run (fronts []) m) 0 (0 + 1 - m) (λ x from below. refl))

pub gives_runs : GivesRuns
gives_runs = record {
  all = λ elements first last answers seen fed steps.
      ap (λ rs. rs ++ flat_map option_to_list answers) (sym (none_chopped first.length))
      ∙ gives_from first.length [] elements first last answers refl seen fed steps;
  ends_there = λ elements first last answers k e run some seen fed steps there given.
      ends_there_from first.length [] elements first last answers k e run some refl seen fed steps there
      given;
}
