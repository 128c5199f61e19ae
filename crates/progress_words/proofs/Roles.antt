-- How a step changes the role of its pass: a lane's pass stays that of its lane, a reader's pass a reader's.
use Rattle.std.proofs.Common.{◌≡◌, ℕ, ◌+◌, length, sym, refl, ap, ◌∙◌, subst}
use Rattle.progress_words.specs.declared.pass_view.LaneView.{LaneView}
use Rattle.progress_words.specs.declared.pass_view.ReaderView.{ReaderView}
use Rattle.progress_words.specs.declared.pass_view.Role.{Role}
use Rattle.progress_words.specs.declared.pass_view.Role.TheVariants.{Raises, Reads}
use Rattle.progress_words.specs.PassView.{lane_part, reader_part}
use Rattle.progress_words.specs.Seat.{number_of}
use Rattle.progress_words.specs.Step.{role_after_give}

-- what every step but a split and the opening of a lane leaves of a reader
pub record SameReader (p q : ReaderView) : Type 0 where
  pub made : q.lanes_made ≡ p.lanes_made
  pub splits : q.splits ≡ p.splits
  pub reads : length q.words_read ≡ length p.words_read
  pub loads : length q.loads ≡ length p.loads

abbrev pub KeepsKind : Role → Role → Type 0
KeepsKind (Raises p) (Raises q) = q.lane ≡ p.lane
KeepsKind (Raises p) (Reads q) = ⊥
KeepsKind (Reads p) (Raises q) = ⊥
KeepsKind (Reads p) (Reads q) = SameReader p q

pub lane_reads : (p : LaneView) (q : ReaderView) → Raises p ≡ Reads q → ⊥
lane_reads p q e = cc

-- a fact of the one reader, or lane, that a role has
pub reader_fact : (Fact : ReaderView → Type 0) (p q : ReaderView) → Reads p ≡ Reads q → Fact p → Fact q
reader_fact Fact p q e fact = subst Fact (ap reader_part e) fact

pub lane_fact : (Fact : LaneView → Type 0) (p q : LaneView) → Raises p ≡ Raises q → Fact p → Fact q
lane_fact Fact p q e fact = subst Fact (ap lane_part e) fact

pub same_kind : (role : Role) → KeepsKind role role
same_kind (Raises p) = refl
same_kind (Reads p) = record { made = refl; splits = refl; reads = refl; loads = refl }

pub lane_after : (old new : Role) → KeepsKind old new → (p : LaneView) → old ≡ Raises p
    → (q : LaneView) × (new ≡ Raises q) × (q.lane ≡ p.lane)
lane_after (Raises p0) (Raises q0) k p e = (q0, refl, k ∙ ap (λ r. (lane_part r).lane) e)
lane_after (Raises p0) (Reads q0) k p e = absurd k
lane_after (Reads p0) (Raises q0) k p e = absurd k
lane_after (Reads p0) (Reads q0) k p e = absurd (lane_reads p p0 (sym e))

pub lane_before : (old new : Role) → KeepsKind old new → (q : LaneView) → new ≡ Raises q
    → (p : LaneView) × (old ≡ Raises p) × (q.lane ≡ p.lane)
lane_before (Raises p0) (Raises q0) k q e = (p0, refl, sym (ap (λ r. (lane_part r).lane) e) ∙ k)
lane_before (Raises p0) (Reads q0) k q e = absurd k
lane_before (Reads p0) (Raises q0) k q e = absurd k
lane_before (Reads p0) (Reads q0) k q e = absurd (lane_reads q q0 (sym e))

pub reader_before : (old new : Role) → KeepsKind old new → (q : ReaderView) → new ≡ Reads q
    → (p : ReaderView) × (old ≡ Reads p) × SameReader p q
reader_before (Raises p0) (Raises q0) k q e = absurd (lane_reads q0 q e)
reader_before (Raises p0) (Reads q0) k q e = absurd k
reader_before (Reads p0) (Raises q0) k q e = absurd k
reader_before (Reads p0) (Reads q0) k q e = (p0, refl, subst (SameReader p0) (ap reader_part e) k)

pub same_number : (n : ℕ) (old new : Role) → KeepsKind old new → number_of n new ≡ number_of n old
same_number n (Raises p) (Raises q) k = ap (λ l. l + 1) k
same_number n (Raises p) (Reads q) k = absurd k
same_number n (Reads p) (Raises q) k = absurd k
same_number n (Reads p) (Reads q) k = refl

-- a lane's pass that gives back keeps its lane, a reader's pass all that it has read
pub give_kind : {V : Type 0} (reach : V → ℕ → ℕ) (u : V) (role : Role)
    → KeepsKind role (role_after_give reach u role)
give_kind reach u (Raises p) = refl
give_kind reach u (Reads p) = same_kind (Reads p)

pub give_reader : {V : Type 0} (reach : V → ℕ → ℕ) (u : V) (role : Role)
    → reader_part (role_after_give reach u role) ≡ reader_part role
give_reader reach u (Raises p) = refl
give_reader reach u (Reads p) = refl
