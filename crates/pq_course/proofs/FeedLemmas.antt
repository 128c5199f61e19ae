-- A reader that is fed piece by piece.
use Rattle.std.proofs.Common.{◌≡◌, ◌∙◌, ℕ, ◌+◌, ◌<◌, [], ◌++◌, length, true, Option, Some, None, ap, sym, subst, arith, append-nil, append_assoc}
use Rattle.std.proofs.KnownBytes.{Consumes-trans}
use Rattle.std.proofs.lemmas.List.{length-append}
use Rattle.std.specs.Io.KnownBytes.{Consumes}
use Rattle.std.specs.Prelude.{IfSome, is_some, unwrap_or}
use Rattle.comtrade_dat.specs.DatReader.{DatReading, FeedsOn, HasRead}
use Rattle.pq_base.specs.Outside.{Files, Holds, Opens, file_named}
use Rattle.pq_words.specs.Text.{Text}

-- ---- the reader

-- it was fed nothing
pub fed_nothing : (r : DatReading) → FeedsOn r [] r
fed_nothing r = λ c s fed h. subst (λ l. HasRead c s l r) (sym (append-nil fed)) h

-- it was fed one text, and then another
pub fed_both : (a b c : DatReading) (first second : Text) → FeedsOn a first b → FeedsOn b second c
    → FeedsOn a (first ++ second) c
fed_both a b c first second on more =
    λ cfg s fed h. subst (λ l. HasRead cfg s l c) (append_assoc fed first second)
    (more cfg s (fed ++ first) (on cfg s fed h))

-- ---- the file

-- these bytes of a file were read, and the reader has been fed them; so many more may come
pub record IsFedSoFar (first now : Option Text) (limit left : ℕ) (old new : DatReading) : Type 0 where
  pub bytes : Text
  pub consumed : Consumes first now bytes
  pub room : left + length bytes ≡ limit
  pub fed : FeedsOn old bytes new

-- more bytes than the limit were read
pub past_limit : (first now : Option Text) (bytes : Text) (limit : ℕ) → Consumes first now bytes
    → limit < length bytes → IfSome first (λ all. limit < length all)
past_limit None now bytes limit consumed past = tt
past_limit (Some all) None bytes limit consumed past = absurd consumed
past_limit (Some all) (Some rest) bytes limit consumed past =
    omega (arith, ap length consumed, length-append bytes rest, past)

found_holds : (found : Option Text) (all bytes : Text) → true ≡ is_some found
    → Some all ≡ Some (unwrap_or found []) → all ≡ bytes → found ≡ Some bytes
found_holds None all bytes there is same = absurd cc
found_holds (Some held) all bytes there is same = let whole : all ≡ held = cc in
    ap (λ l. Some l) (sym whole ∙ same)

-- the bytes of an opened file are those that are left of it
pub opened_holds : (files : Option Files) (name : Text) (rest : Option Text) (bytes : Text)
    → Opens files name true rest → IfSome rest (λ all. all ≡ bytes) → Holds files name bytes
opened_holds None name rest bytes opens left = tt
opened_holds (Some fs) name None bytes opens left = absurd cc
opened_holds (Some fs) name (Some all) bytes opens left =
    found_holds (file_named fs name) all bytes opens.0 opens.1 left

-- ---- one more piece

pub fed_further : (first between now : Option Text) (limit left : ℕ) (a b c : DatReading) (piece : Text)
    → IsFedSoFar first between limit (left + length piece) a b → Consumes between now piece →
    FeedsOn b piece c
    → IsFedSoFar first now limit left a c
fed_further first between now limit left a b c piece so_far consumed on = record {
  bytes = so_far.bytes ++ piece;
  consumed = Consumes-trans first between now so_far.bytes piece so_far.consumed consumed;
  room = omega (arith, so_far.room, length-append so_far.bytes piece);
  fed = fed_both a b c so_far.bytes piece so_far.fed on;
}
