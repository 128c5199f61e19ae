-- A split of a reader's pass keeps the rule.
use Rattle.std.proofs.Common.{◌≡◌, ℕ, ◌+◌, ◌<◌, ◌≤◌, List, [], ◌∷◌, ◌++◌, length, get_or, set, false, sym, refl, arith}
use Rattle.atomic_table.specs.Table.{Splits}
use Rattle.progress_words.specs.declared.pass_view.PassView.{PassView}
use Rattle.progress_words.specs.declared.pass_view.ReaderView.{ReaderView}
use Rattle.progress_words.specs.declared.pass_view.Role.TheVariants.{Reads}
use Rattle.progress_words.specs.PassView.{reader_part, after_split, split_view}
use Rattle.progress_words.specs.Rule.{MeetsRule}
use Rattle.progress_words.specs.Seat.{EachReader}
use Rattle.progress_words.proofs.Roles.{lane_reads, reader_fact}
use Rattle.progress_words.proofs.SplitParts.{lane_split, names_split, turn_split, stop_split}
use Rattle.progress_words.proofs.Views.{each_reader_split, each_lane_split}

module _ {V N : Type 0} (n : ℕ) (reach : V → ℕ → ℕ) (name : V → N) (opening : V) where
  pub splits : (id : ℕ) (v : PassView V N) → v.role ≡ Reads (reader_part v.role)
      → Splits (MeetsRule n reach name opening) id v (after_split v) (split_view v)
  splits id v is s r at =
      let p : ReaderView = reader_part v.role in let q : ReaderView = record p { splits = p.splits + 1 } in
      let new : ReaderView = record p { splits = p.splits + 1; wrote_stop = false } in
      let w : PassView V N = after_split v in let u : PassView V N = split_view v in
      let t = r.standing in let vs : List (PassView V N) = set s.views id w ++ u ∷ [] in
      let Unset : ReaderView → Type 0 = λ b. b.wrote_stop ≡ false in
      let Split : ℕ → ReaderView → Type 0 =
      λ seat b. b.splits ≡ 0 → EachReader vs (λ other _. other ≡ seat) in
      -- a fact of what was read holds of both
      let both = λ (Fact : ReaderView → Type 0) (old : EachReader s.views (λ _ b. Fact b))
      (keep : Fact p → Fact q) (copy : Fact p → Fact new).
      each_reader_split s.views id w u (λ _ b. Fact b) (λ j d _ a. old j d a)
      (λ b e. reader_fact Fact q b e (keep (old id v at p is)))
      (λ b e. reader_fact Fact new b e (copy (old id v at p is))) in record {
        standing = t;
        shape = record {
          words = r.shape.words;
          slots = r.shape.slots;
          reads = both (λ b. length b.words_read ≡ n) r.shape.reads (λ f. f) (λ f. f);
          loads = both (λ b. length b.loads ≡ n) r.shape.loads (λ f. f) (λ f. f);
        };
        one_name = names_split n reach name opening s t id v at p q is
            (Reads new) t.lanes_made t.seat_of r.one_name;
        lanes = record {
          most = r.lanes.most;
          counted = both (λ b. b.lanes_made ≡ t.lanes_made) r.lanes.counted (λ f. f) (λ f. f);
          has_pass = λ lane l. lane_split s.views id v w u p at is (t.seat_of lane) lane
              (r.lanes.has_pass lane l);
          one_pass = each_lane_split s.views id w u
              (λ seat b. (b.lane < t.lanes_made) × (t.seat_of b.lane ≡ seat))
              (λ j d _ a. r.lanes.one_pass j d a) (λ b e. absurd (lane_reads b q (sym e)))
              (λ b e. absurd (lane_reads b new (sym e)));
          words = each_lane_split s.views id w u (λ _ b. b.word ≡ get_or s.words b.lane 0)
              (λ j d _ a. r.lanes.words j d a) (λ b e. absurd (lane_reads b q (sym e)))
              (λ b e. absurd (lane_reads b new (sym e)));
          zero = r.lanes.zero;
          same = r.lanes.same;
        };
        reaches = record {
          reads = both (λ b. (k : ℕ) → k < n → get_or b.words_read k 0 ≤ get_or s.words k 0) r.reaches.reads
              (λ f. f)
              (λ f. f);
          words = r.reaches.words;
          given = each_lane_split s.views id w u (λ _ b. b.reach_given ≡ reach t.value b.lane)
              (λ j d _ a. r.reaches.given j d a) (λ b e. absurd (lane_reads b q (sym e)))
              (λ b e. absurd (lane_reads b new (sym e)));
        };
        turn = turn_split n reach name opening s t id v at p q is (Reads new) t.lanes_made t.seat_of r.turn;
        stop = stop_split n reach name opening s t id v at p q is (Reads new) t.lanes_made t.seat_of refl
            (λ b e. reader_fact Unset new b e refl) r.stop;
        sole_reader = each_reader_split s.views id w u Split
            (λ j d other a b e z. absurd (other (sym (r.sole_reader j d a b e z id v at p is))))
            (λ b e. reader_fact (Split id) q b e (λ z. absurd (omega arith)))
            (λ b e. reader_fact (Split (length s.views)) new b e (λ z. absurd (omega arith)));
        value = r.value;
      }
