-- Where the thresholds are in order, no latest values both begin and end an event of one kind.
use Rattle.std.proofs.Common.{◌≡◌, ℕ, Bool, true, false, ◌||◌, ◌&&◌, List, [], ◌∷◌, Option, None, Some, IsTrue, refl, sym, ◌∙◌, ap, subst}
use Rattle.std.specs.List.{list_any, list_all}
use Rattle.event_detect.specs.declared.kind.Kind.{Kind}
use Rattle.event_detect.specs.declared.kind.Kind.TheVariants.{Dip, Swell, Interruption}
use Rattle.event_detect.specs.declared.limits.Limits.{Limits}
use Rattle.event_detect.specs.Threshold.{IsInOrder, IsApart, class_of}
use Rattle.event_detect.proofs.LimitLaws.{classes_apart}
use Rattle.polyphase.specs.PolyphaseEvent.{begins, ends, is_there_and, passes_if_there, value_is_past, value_is_back}

-- tests of which no value passes both
abbrev Excludes : (ℕ → Bool) → (ℕ → Bool) → Type 0
Excludes past back = (v : ℕ) → past v ≡ true → back v ≡ true → ⊥

kinds_apart : (kind : Kind) (limits : Limits) → IsInOrder limits
    → Excludes (value_is_past kind limits) (value_is_back kind limits)
kinds_apart Dip limits order v = (classes_apart limits v order).dip
kinds_apart Swell limits order v = (classes_apart limits v order).swell
kinds_apart Interruption limits order v = (classes_apart limits v order).interruption

-- one past, and each that is there back
any_apart : (past back : ℕ → Bool) → Excludes past back → (xs : List (Option ℕ))
    → list_any (is_there_and past) xs ≡ true → list_all (passes_if_there back) xs ≡ true → ⊥
any_apart past back excluded [] some all = let bad : ⊥ = cc in bad
any_apart past back excluded (None ∷ xs) some all = any_apart past back excluded xs some all
any_apart past back excluded (Some v ∷ xs) some all =
    at (past v) refl (back v) refl (any_apart past back excluded xs) some all
  where
    at : (b : Bool) → past v ≡ b → (d : Bool) → back v ≡ d
        → (list_any (is_there_and past) xs ≡ true → list_all (passes_if_there back) xs ≡ true → ⊥)
        → (b || list_any (is_there_and past) xs) ≡ true → (d && list_all (passes_if_there back) xs) ≡ true → ⊥
    at true p true q rest some all = excluded v p q
    at false p true q rest some all = rest some all
    at b p false q rest some all = let bad : ⊥ = cc in bad

-- each past, and one back
all_apart : (past back : ℕ → Bool) → Excludes past back → (xs : List (Option ℕ))
    → list_all (is_there_and past) xs ≡ true → list_any (is_there_and back) xs ≡ true → ⊥
all_apart past back excluded [] all some = let bad : ⊥ = cc in bad
all_apart past back excluded (None ∷ xs) all some = let bad : ⊥ = cc in bad
all_apart past back excluded (Some v ∷ xs) all some =
    at (past v) refl (back v) refl (all_apart past back excluded xs) all some
  where
    at : (b : Bool) → past v ≡ b → (d : Bool) → back v ≡ d
        → (list_all (is_there_and past) xs ≡ true → list_any (is_there_and back) xs ≡ true → ⊥)
        → (b && list_all (is_there_and past) xs) ≡ true → (d || list_any (is_there_and back) xs) ≡ true → ⊥
    at true p true q rest all some = excluded v p q
    at true p false q rest all some = rest all some
    at false p d q rest all some = let bad : ⊥ = cc in bad

begins_apart : (kind : Kind) (limits : Limits) (values : List (Option ℕ)) → IsInOrder limits
    → begins kind limits values ≡ true → ends kind limits values ≡ true → ⊥
unfolding begins ends
begins_apart Dip limits values order =
    any_apart (value_is_past Dip limits) (value_is_back Dip limits) (kinds_apart Dip limits order) values
begins_apart Swell limits values order =
    any_apart (value_is_past Swell limits) (value_is_back Swell limits)
    (kinds_apart Swell limits order) values
begins_apart Interruption limits values order =
    all_apart (value_is_past Interruption limits) (value_is_back Interruption limits)
    (kinds_apart Interruption limits order) values

pub apart : (kind : Kind) (limits : Limits) (values : List (Option ℕ)) → IsInOrder limits → (b e : Bool)
    → b ≡ begins kind limits values → e ≡ ends kind limits values → IsTrue b → ¬ IsTrue e
apart kind limits values order b e b_is e_is begin end =
    begins_apart kind limits values order (sym b_is ∙ begin) (sym e_is ∙ end)
