-- The pass of the next lane, cut off the first reader's, keeps the rule.
use Rattle.std.proofs.Common.{◌≡◌, ℕ, ◌+◌, ◌<◌, ◌≤◌, List, [], ◌∷◌, ◌++◌, length, get_or, set, sym, refl, ap, ◌∙◌, arith, subst, length-set}
use mathlib.Core.Logic.{dite}
use native.Mathlib.Decide.{ℕ_discrete}
use lib.ListN.{get_elem?}
use Rattle.atomic_table.specs.Table.{Splits}
use Rattle.atomic_table.proofs.Lists.{at_last}
use Rattle.progress_words.specs.declared.pass_view.LaneView.{LaneView}
use Rattle.progress_words.specs.declared.pass_view.PassView.{PassView}
use Rattle.progress_words.specs.declared.pass_view.ReaderView.{ReaderView}
use Rattle.progress_words.specs.declared.pass_view.Role.TheVariants.{Raises, Reads}
use Rattle.progress_words.specs.PassView.{reader_part, fresh_lane, after_lane, next_lane_view}
use Rattle.progress_words.specs.Rule.{MeetsRule}
use Rattle.progress_words.specs.Seat.{EachReader, IsSeatOfLane}
use Rattle.progress_words.proofs.Lists.{put, put_here, put_else}
use Rattle.progress_words.proofs.Roles.{lane_reads, lane_fact, reader_fact}
use Rattle.progress_words.proofs.SplitParts.{lane_split, names_split, turn_split, stop_split}
use Rattle.progress_words.proofs.Views.{each_reader_split, each_lane_split}

module _ {V N : Type 0} (n : ℕ) (reach : V → ℕ → ℕ) (name : V → N) (opening : V) where
  pub makes_lane : (id : ℕ) (v : PassView V N) → v.role ≡ Reads (reader_part v.role)
      → (reader_part v.role).splits ≡ 0 → (reader_part v.role).lanes_made < n
      → Splits (MeetsRule n reach name opening) id v (after_lane v) (next_lane_view reach v)
  makes_lane id v is first_yet room s r at =
      let p : ReaderView = reader_part v.role in let m : ℕ = p.lanes_made in
      let q : ReaderView = record p { lanes_made = m + 1 } in
      let new : LaneView = fresh_lane m (reach v.opening m) in
      let w : PassView V N = after_lane v in let u : PassView V N = next_lane_view reach v in
      let t = r.standing in let vs : List (PassView V N) = set s.views id w ++ u ∷ [] in
      let made : m ≡ t.lanes_made = r.lanes.counted id v at p is in
      let alone : EachReader s.views (λ other _. other ≡ id) = r.sole_reader id v at p is first_yet in
      let seat_of : ℕ → ℕ = put t.seat_of m (length s.views) in
      let same : reach v.opening m ≡ reach t.value m =
      ap (λ (y : V). reach y m) (r.one_name.openings id v at) ∙ sym (r.lanes.same m (omega arith) room) in
      let Long : ReaderView → Type 0 = λ b. length b.words_read ≡ n in
      let Loads : ReaderView → Type 0 = λ b. length b.loads ≡ n in
      let Made : ReaderView → Type 0 = λ b. b.lanes_made ≡ m + 1 in
      let Read : ReaderView → Type 0 =
      λ b. (k : ℕ) → k < n → get_or b.words_read k 0 ≤ get_or s.words k 0 in
      let One : LaneView → Type 0 = λ b. (b.lane < m + 1) × (seat_of b.lane ≡ length s.views) in
      let Word : LaneView → Type 0 = λ b. b.word ≡ get_or s.words b.lane 0 in
      let Given : LaneView → Type 0 = λ b. b.reach_given ≡ reach t.value b.lane in record {
        standing = record { lanes_made = m + 1; seat_of = seat_of; value = t.value; holder = t.holder };
        shape = record {
          words = r.shape.words;
          slots = r.shape.slots;
          reads = each_reader_split s.views id w u (λ _ b. Long b) (λ j d _ a. r.shape.reads j d a)
              (λ b e. reader_fact Long q b e (r.shape.reads id v at p is))
              (λ b e. absurd (lane_reads new b e));
          loads = each_reader_split s.views id w u (λ _ b. Loads b) (λ j d _ a. r.shape.loads j d a)
              (λ b e. reader_fact Loads q b e (r.shape.loads id v at p is))
              (λ b e. absurd (lane_reads new b e));
        };
        one_name = names_split n reach name opening s t id v at p q is (Raises new)
            (m + 1) seat_of r.one_name;
        lanes = record {
          most = omega arith;
          counted = each_reader_split s.views id w u (λ _ b. Made b)
              (λ j d other a b e. absurd (other (alone j d a b e))) (λ b e. reader_fact Made q b e refl)
              (λ b e. absurd (lane_reads new b e));
          has_pass = λ lane l. dite (ℕ_discrete lane m)
              (λ e. let seat : seat_of lane ≡ length s.views =
              ap seat_of e ∙ put_here t.seat_of m (length s.views) in
              record {
                view = u;
                part = new;
                at = ap (get_elem? vs) seat
                    ∙ at_last (set s.views id w) u (length s.views) (length-set s.views id w);
                raises = refl;
                of_lane = sym e;
              })
              (λ e. let Seat : ℕ → Type 0 = λ k. IsSeatOfLane vs k lane in
              subst Seat (sym (put_else t.seat_of m (length s.views) lane e))
              (lane_split s.views id v w u p at is (t.seat_of lane) lane
              (r.lanes.has_pass lane (omega arith))));
          one_pass = each_lane_split s.views id w u (λ seat b. (b.lane < m + 1) × (seat_of b.lane ≡ seat))
              (λ j d _ a b e. let its = r.lanes.one_pass j d a b e in let below = its.0 in
              (omega arith, put_else t.seat_of m (length s.views) b.lane (λ z. omega arith) ∙ its.1))
              (λ b e. absurd (lane_reads b q (sym e)))
              (λ b e. lane_fact One new b e (omega arith, put_here t.seat_of m (length s.views)));
          words = each_lane_split s.views id w u (λ _ b. Word b) (λ j d _ a. r.lanes.words j d a)
              (λ b e. absurd (lane_reads b q (sym e)))
              (λ b e. lane_fact Word new b e (sym (r.lanes.zero m (omega arith) room)));
          zero = λ k a l. r.lanes.zero k (omega arith) l;
          same = λ k a l. r.lanes.same k (omega arith) l;
        };
        reaches = record {
          reads = each_reader_split s.views id w u (λ _ b. Read b) (λ j d _ a. r.reaches.reads j d a)
              (λ b e. reader_fact Read q b e (r.reaches.reads id v at p is))
              (λ b e. absurd (lane_reads new b e));
          words = r.reaches.words;
          given = each_lane_split s.views id w u (λ _ b. Given b) (λ j d _ a. r.reaches.given j d a)
              (λ b e. absurd (lane_reads b q (sym e))) (λ b e. lane_fact Given new b e same);
        };
        turn = turn_split n reach name opening s t id v at p q is (Raises new) (m + 1) seat_of r.turn;
        stop = stop_split n reach name opening s t id v at p q is (Raises new) (m + 1) seat_of refl
            (λ b e. absurd (lane_reads new b e)) r.stop;
        sole_reader = each_reader_split s.views id w u
            (λ seat b. b.splits ≡ 0 → EachReader vs (λ other _. other ≡ seat))
            (λ j d other a b e. absurd (other (alone j d a b e)))
            (λ _ _ _. each_reader_split s.views id w u (λ other _. other ≡ id) (λ j d _ a. alone j d a)
            (λ _ _. refl) (λ b e. absurd (lane_reads new b e)))
            (λ b e. absurd (lane_reads new b e));
        value = r.value;
      }
