-- Files in memory by their index, and the names of those that were asked: for this crate alone.
use Rattle.std.specs.Prelude.{◌≡◌, ℕ, nat_lt, if◌then◌else◌, String, string_bytes, Bool, List, [], ◌∷◌, ◌++◌, length, map, Option, Some, None, IfSome, is_some, unwrap_or, option_map, slice_get}
use Rattle.std.specs.Option.{option_map_or}
use Rattle.std.specs.Str.{bytes_eq}
use Rattle.std.specs.declared.alloc.Global.{Global}
use Rattle.std.specs.declared.vec.Vec.{Vec}
use Rattle.pq_words.specs.Text.{Text}
use Rattle.pq_base.specs.declared.asked_indices.TheConstants.{MOST_TOLD}
use Rattle.pq_base.specs.Outside.{Files, file_named}

-- the name of the file of an index
abbrev pub name_at : Files → ℕ → Text
name_at files index = option_map_or (λ f. f.0) (slice_get files index) []

-- the bytes of the file of an index; none where there is no index
abbrev pub content_at : Files → Option ℕ → Text
content_at files None = []
content_at files (Some index) = option_map_or (λ f. f.1) (slice_get files index) []

-- a file as it is handed in has this name
abbrev pub has_name : Text → String Global × Vec ℕ Global → Bool
has_name name f = bytes_eq (string_bytes f.0) name

-- the index is that of the first file of this name, and None where there is none
pub record IsIndexOf (files : Files) (name : Text) (index : Option ℕ) : Type 0 where
  pub found : is_some index ≡ is_some (file_named files name)
  pub content : content_at files index ≡ unwrap_or (file_named files name) []
  pub named : IfSome index (λ i. name_at files i ≡ name)

-- the indices told after one more was asked: none any longer where it has no file, or is the seventeenth
abbrev pub indices_after : Option (List ℕ) → Option ℕ → Option (List ℕ)
indices_after None index = None
indices_after (Some indices) None = None
indices_after (Some indices) (Some index) =
    if nat_lt (length indices) MOST_TOLD then Some (indices ++ index ∷ []) else None

-- the names of the files of such indices
abbrev pub names_at : Files → Option (List ℕ) → Option (List Text)
names_at files indices = option_map (map (name_at files)) indices
