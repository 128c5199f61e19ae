-- The names that were asked, in a call and in calls one after another.
use Rattle.std.proofs.Common.{◌≡◌, Bool, true, false, List, [], ◌∷◌, ◌++◌, ◌&&◌, if◌then◌else◌, Option, Some, None, is_some, nat_lt, length, refl, sym, ap, ◌∙◌, append-nil, append_assoc}
use Rattle.pq_base.specs.MemoryShelf.{names_after}
use Rattle.pq_base.specs.Outside.{Files, HasAsked, file_named}
use Rattle.pq_words.specs.Text.{Text}
use Rattle.pq_base.specs.declared.asked_indices.TheConstants.{MOST_TOLD}

-- nothing was asked where what is told stays
pub asked_nothing : (told : Option (List Text)) → HasAsked told [] told
asked_nothing None = tt
asked_nothing (Some names) = (names, refl, sym (append-nil names))

-- the names of one call, and then those of the next
pub asked_more : (before between after : Option (List Text)) (first further : List Text) →
    HasAsked before first between → HasAsked between further after → HasAsked before (first ++ further) after
asked_more before between None first further h k = tt
asked_more before None (Some after) first further h (middle, none, more) = absurd cc
asked_more before (Some between) (Some after) first further (earlier, told, is) (middle, same, more) =
    let joined : middle ≡ earlier ++ first = cc in
    (earlier, told, more ∙ ap (λ names. names ++ further) joined ∙ append_assoc earlier first further)

-- one more name is asked of a shelf in memory
told_step : (names : List Text) (name : Text) (b : Bool) →
    HasAsked (Some names) (name ∷ []) (if b then Some (names ++ name ∷ []) else None)
told_step names name true = (names, refl, refl)
told_step names name false = tt

pub asked_one : (files : Files) (told : Option (List Text)) (name : Text) →
    HasAsked told (name ∷ []) (names_after files told name)
asked_one files None name = tt
asked_one files (Some names) name =
    told_step names name (is_some (file_named files name) && nat_lt (length names) MOST_TOLD)
