-- The index of a name among files in memory.
use Rattle.std.proofs.Common.{◌≡◌, ℕ, suc, ◌+◌, ◌-◌, ◌<◌, List, [], ◌∷◌, ◌++◌, ◌&&◌, length, take, drop, map, min, Bool, true, false, cond, not, Option, Some, None, option_map, is_some, unwrap_or, nat_lt, refl, sym, ap, ◌∙◌, arith, if◌then◌else◌}
use Rattle.std.proofs.lemmas.Bool.Decides.{nat_tests}
use Rattle.std.proofs.lemmas.Slice.Eq.{bytes_eq-Decides}
use Rattle.std.proofs.lemmas.List.{drop_min, drop-drop, drop_all, take_all, length-drop, take-append-drop, length-map, map-append}
use Rattle.std.specs.List.{position, position_or_len}
use Rattle.std.specs.declared.alloc.Global.{Global}
use Rattle.std.specs.declared.vec.Vec.{Vec}
use Rattle.std.specs.Prelude.{String}
use Rattle.pq_base.specs.FileIndex.{IsIndexOf, has_name, name_at, names_at, indices_after}
use Rattle.pq_base.specs.MemoryShelf.{file_view, names_after}
use Rattle.pq_base.specs.Outside.{Files, file_named}
use Rattle.pq_words.specs.Text.{Text}
use Rattle.pq_base.specs.declared.asked_indices.TheConstants.{MOST_TOLD}

-- the index of a name, by the test of the first file
module _ (f : String Global × Vec ℕ Global) (fs : List (String Global × Vec ℕ Global)) (name : Text) where
  -- the file of the name, by that test
  abbrev found : Bool → Option Text
  found b = if b then Some (file_view f).1 else file_named (map file_view fs) name

  here : has_name name f ≡ true → IsIndexOf (file_view f ∷ map file_view fs) name (Some 0)
  here is = record {
    found = ap (λ b. is_some (found b)) (sym is);
    content = ap (λ b. unwrap_or (found b) []) (sym is);
    named = (bytes_eq-Decides (file_view f).0 name).0 is;
  }

  later : (index : Option ℕ) → has_name name f ≡ false → IsIndexOf (map file_view fs) name index →
      IsIndexOf (file_view f ∷ map file_view fs) name (option_map suc index)
  later None is rest = record {
    found = rest.found ∙ ap (λ b. is_some (found b)) (sym is);
    content = rest.content ∙ ap (λ b. unwrap_or (found b) []) (sym is);
    named = tt;
  }
  later (Some index) is rest = record {
    found = rest.found ∙ ap (λ b. is_some (found b)) (sym is);
    content = rest.content ∙ ap (λ b. unwrap_or (found b) []) (sym is);
    named = rest.named;
  }

  step : (b : Bool) → has_name name f ≡ b → (n : ℕ) →
      IsIndexOf (map file_view fs) name (cond (nat_lt n (length fs)) (Some n) None) →
      IsIndexOf (file_view f ∷ map file_view fs) name
      (cond (nat_lt (cond (not b) (1 + n) 0) (length (f ∷ fs))) (Some (cond (not b) (1 + n) 0)) None)
  step true is n rest =
      let first : nat_lt 0 (length (f ∷ fs)) ≡ true = grind (arith, nat_tests) in
      rw first (here is)
  step false is n rest =
      let none : Option ℕ = None in
      let next : cond (nat_lt (1 + n) (length (f ∷ fs))) (Some (1 + n)) none
      ≡ option_map suc (cond (nat_lt n (length fs)) (Some n) none) = grind (arith, nat_tests) in
      rw next (later (cond (nat_lt n (length fs)) (Some n) none) is rest)

-- the first file that has the name is the one of the index
pub index_of_name : (fs : List (String Global × Vec ℕ Global)) (name : Text) →
    IsIndexOf (map file_view fs) name (position (has_name name) fs)
index_of_name [] name = record { found = refl; content = refl; named = tt }
index_of_name (f ∷ fs) name =
    step f fs name (has_name name f) refl (position_or_len (has_name name) fs) (index_of_name fs name)

-- ---- the names that were asked

-- one more name, where the test holds
abbrev pub told_if : {X : Type 0} → List X → X → Bool → Option (List X)
told_if names name b = if b then Some (names ++ name ∷ []) else None

module _ (files : Files) (name : Text) where
  of_index : (b : Bool) (indices : List ℕ) (index : ℕ) → name_at files index ≡ name →
      names_at files (told_if indices index b) ≡ told_if (map (name_at files) indices) name b
  of_index true indices index named = ap Some (map-append (name_at files) indices (index ∷ [])
      ∙ ap (λ n. map (name_at files) indices ++ n ∷ []) named)
  of_index false indices index named = refl

  -- one more index is one more name
  pub names_after_index : (indices : Option (List ℕ)) (index : Option ℕ) → IsIndexOf files name index →
      names_at files (indices_after indices index) ≡ names_after files (names_at files indices) name
  names_after_index None index is = refl
  names_after_index (Some indices) None is =
      let names = map (name_at files) indices in
      ap (λ b. told_if names name (b && nat_lt (length names) MOST_TOLD)) is.found
  names_after_index (Some indices) (Some index) is =
      let names = map (name_at files) indices in
      of_index (nat_lt (length indices) MOST_TOLD) indices index is.named
      ∙ (ap (λ n. told_if names name (nat_lt n MOST_TOLD)) (sym (length-map indices (name_at files)))
      ∙ ap (λ b. told_if names name (b && nat_lt (length names) MOST_TOLD)) is.found)

-- ---- reads

-- a read of a piece gives the next bytes, none only at the end
pub read_piece : (done at count piece room : ℕ) (content bytes new : List ℕ) → bytes ≡ content → at
    ≡ min done (length bytes)
    → count ≡ min (min piece room) (length (take (length bytes - at) (drop at bytes))) → take count new
    ≡ take count (take (length bytes - at) (drop at bytes)) → 0 < piece
    → (drop done content ≡ take count new ++ drop (at + count) content) ×
    (count ≡ 0 → 0 < room → drop (at + count) content ≡ [])
read_piece done at count piece room content bytes new is here many front some =
    let rest = drop at content in
    let all : take (length bytes - at) (drop at bytes) ≡ rest =
    take_all _ _ (omega (arith, length-drop at bytes)) ∙ ap (drop at) is in
    let left : length (take (length bytes - at) (drop at bytes)) ≡ length content - at = ap length all
    ∙ length-drop at content in
    let moved : drop done content ≡ rest = sym (drop_min done content)
    ∙ ap (λ n. drop n content) (sym (here ∙ ap (λ xs. min done (length xs)) is)) in (
      moved ∙ (sym (take-append-drop count rest) ∙ (ap (λ xs. xs ++ drop count rest)
          (sym (front ∙ ap (take count) all)) ∙ ap (λ xs. take count new ++ xs)
          (drop-drop count at content))),
      λ none room. drop_all _ content (omega arith),
    )
