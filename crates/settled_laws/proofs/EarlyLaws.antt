-- The merged windows that begin before a place stand first, and are those of the channels' windows that do.
use Rattle.std.proofs.Common.{◌≡◌, ℕ, ◌+◌, ◌<◌, ◌≤◌, true, false, not, nat_lt, List, [], ◌∷◌, ◌++◌, map, filter, flat_map, refl, sym, ◌∙◌, ap, inl, inr, arith, Less}
use Rattle.std.specs.List.{AllByRecursion, enumerate_from}
use Rattle.std.specs.Ordering.{is_lt, nat_cmp, ordering_then}
use Rattle.std.specs.Cmp.{IsStrictWeakOrder, nat_cmp_is}
use Rattle.std.proofs.lemmas.Bool.{cases_lt}
use Rattle.std.proofs.lemmas.Bool.Decides.{nat_tests}
use Rattle.std.proofs.lemmas.List.Elements.{filter-append}
use Rattle.std.proofs.lemmas.List.Sorted.{ranks_by}
use Rattle.event_detect.specs.declared.window.Window.{Window}
use Rattle.polyphase.specs.PolyphaseEvent.{ChannelWindow, merged_cmp, of_channel, merged_windows}
use Rattle.polyphase.proofs.MergedLaws.{merged_cmp_total}
use Rattle.settled_laws.specs.SettledEvents.{begins_before, is_early}
use Rattle.settled_laws.proofs.SettledLaws.{IsFrom}
use Rattle.pq_words.specs.Sorted.{in_order}
use Rattle.settled_laws.proofs.ListLaws.{all_append, all_mapped, all_both, all_kept, all_fail, filter_mapped, filter_ordered, filter_splits}
use Rattle.polyphase.proofs.MovedLaws.{all_ordered}
use Rattle.pq_words.proofs.PrefixLaws.{fails_on_rising}
use Rattle.pq_words.proofs.SortedLaws.{in_order_rises}

merged_weak : IsStrictWeakOrder (λ x y. is_lt (merged_cmp x y))
merged_weak = ranks_by merged_cmp_total (λ m. m)

-- ---- the early ones are those of the channels

joined_early : (w k : ℕ) (xss : List (List Window))
    → filter (is_early w) (flat_map (λ p. of_channel p.0 p.1) (enumerate_from k xss))
    ≡ flat_map (λ p. of_channel p.0 p.1) (enumerate_from k (map (filter (begins_before w)) xss))
joined_early w k [] = refl
joined_early w k (xs ∷ xss) =
    let made : Window → ChannelWindow = λ v. record { channel = k; window = v } in
    filter-append (is_early w) (map made xs) (flat_map (λ p. of_channel p.0 p.1) (enumerate_from (k + 1) xss))
    ∙ ap (λ ms. ms ++ filter (is_early w) (flat_map (λ p. of_channel p.0 p.1) (enumerate_from (k + 1) xss)))
    (filter_mapped (is_early w) made xs)
    ∙ ap (λ ms. map made (filter (begins_before w) xs) ++ ms) (joined_early w (k + 1) xss)

pub merged_early : (w : ℕ) (xss : List (List Window)) → filter (is_early w) (merged_windows xss)
    ≡ merged_windows (map (filter (begins_before w)) xss)
unfolding merged_windows
merged_early w xss =
    filter_ordered merged_cmp (is_early w) merged_weak (flat_map (λ p. of_channel p.0 p.1)
    (enumerate_from 0 xss)) ∙ ap (in_order merged_cmp) (joined_early w 0 xss)

-- ---- they stand first

earlier_start : (x y : ChannelWindow) → y.window.start < x.window.start → is_lt (merged_cmp y x) ≡ true
earlier_start x y less =
    let rest = ordering_then (nat_cmp y.channel x.channel) (ordering_then (nat_cmp y.window.end x.window.end)
    (nat_cmp y.window.value x.window.value)) in
    ap (λ r. is_lt (ordering_then r rest)) (sym (nat_cmp_is y.window.start x.window.start Less less))

lt_fails : (a b w : ℕ) → a ≤ b → nat_lt a w ≡ false → nat_lt b w ≡ false
lt_fails a b w more fails = grind (arith, nat_tests, more, fails)

starts_above : (w : ℕ) (x y : ChannelWindow) → is_lt (merged_cmp y x) ≡ false → is_early w x ≡ false →
    is_early w y ≡ false
starts_above w x y low fails =
    elim (cases_lt y.window.start x.window.start) [
      | inl less ↦ absurd (let is : true ≡ false = sym (earlier_start x y less) ∙ low in let bad : ⊥ = cc in
          bad)
      | inr more ↦ lt_fails x.window.start y.window.start w more fails
    ]

pub merged_splits : (w : ℕ) (xss : List (List Window)) →
    merged_windows xss ≡ filter (is_early w) (merged_windows xss) ++ filter (λ m. not (is_early w m))
    (merged_windows xss)
unfolding merged_windows
merged_splits w xss =
    let all = flat_map (λ p. of_channel p.0 p.1) (enumerate_from 0 xss) in
    filter_splits (is_early w) (in_order merged_cmp all)
    (fails_on_rising (λ x y. is_lt (merged_cmp x y)) (is_early w) (starts_above w) (in_order merged_cmp all)
    (in_order_rises merged_cmp merged_weak all))

-- ---- the others begin at the place or after it

-- a window that is not empty
abbrev pub IsWindow : Window → Type 0
IsWindow v = v.start < v.end

joined_all : (P : Window → Type 0) (k : ℕ) (xss : List (List Window)) → AllByRecursion (AllByRecursion P) xss
    → AllByRecursion (λ m. P m.window) (flat_map (λ p. of_channel p.0 p.1) (enumerate_from k xss))
joined_all P k [] h = tt
joined_all P k (xs ∷ xss) h =
    let made : Window → ChannelWindow = λ v. record { channel = k; window = v } in
    all_append (λ m. P m.window) (map made xs) (flat_map (λ p. of_channel p.0 p.1)
    (enumerate_from (k + 1) xss)) (all_mapped (λ m. P m.window) made xs h.0)
    (joined_all P (k + 1) xss h.1)

-- what holds of all windows of the channels holds of the merged ones
pub merged_all : (P : Window → Type 0) (xss : List (List Window)) → AllByRecursion (AllByRecursion P) xss →
    AllByRecursion (λ m. P m.window) (merged_windows xss)
unfolding merged_windows
merged_all P xss h = all_ordered merged_cmp (λ m. P m.window) (flat_map (λ p. of_channel p.0 p.1)
    (enumerate_from 0 xss)) (joined_all P 0 xss h)

is_from : (w : ℕ) (m : ChannelWindow) → IsWindow m.window → is_early w m ≡ false → IsFrom w m
is_from w m window fails = let late : w ≤ m.window.start = grind (arith, nat_tests, fails) in
    (late, omega (arith, late, window))

pub merged_rest : (w : ℕ) (xss : List (List Window)) → AllByRecursion (AllByRecursion IsWindow) xss
    → AllByRecursion (IsFrom w) (filter (λ m. not (is_early w m)) (merged_windows xss))
merged_rest w xss h =
    let ordered = merged_windows xss in
    all_both (λ m. IsWindow m.window) (λ m. is_early w m ≡ false) (IsFrom w) (is_from w)
    (filter (λ m. not (is_early w m)) ordered)
    (all_kept (λ m. IsWindow m.window) (λ m. not (is_early w m)) ordered (merged_all IsWindow xss h))
    (all_fail (is_early w) ordered)
