-- What a step of one pass keeps of the parts on shape, names, lanes, reaches and the sole reader.
use Rattle.std.proofs.Common.{◌≡◌, ◌≢◌, ℕ, ◌<◌, ◌≤◌, List, length, get_or, set, Option, sym, refl, ap, ◌∙◌, subst, arith}
use mathlib.Core.Logic.{dite}
use mathlib.Core.Option.{some, some-injective}
use native.Mathlib.Decide.{ℕ_discrete}
use lib.ListN.{get_elem?}
use Rattle.atomic_table.specs.Table.{State}
use Rattle.atomic_table.proofs.Lists.{set_here, set_else}
use Rattle.progress_words.specs.declared.pass_view.LaneView.{LaneView}
use Rattle.progress_words.specs.declared.pass_view.PassView.{PassView}
use Rattle.progress_words.specs.declared.pass_view.ReaderView.{ReaderView}
use Rattle.progress_words.specs.declared.pass_view.Role.TheVariants.{Raises, Reads}
use Rattle.progress_words.specs.Rule.{HasShape, HasOneName, HasLanes, HasReaches, HasSoleReader, MeetsRule}
use Rattle.progress_words.specs.Seat.{EachReader, IsSeatOfLane, Standing}
use Rattle.progress_words.proofs.Lists.{inside}
use Rattle.progress_words.proofs.Roles.{KeepsKind, lane_after, lane_before, reader_before, same_kind}
use Rattle.progress_words.proofs.Views.{each_set, each_lane_set, each_reader_set}

-- what stands behind the words after a step that changes the value or the holder
abbrev pub stands : {V : Type 0} → Standing V → V → ℕ → Standing V
stands t u holder = record { lanes_made = t.lanes_made; seat_of = t.seat_of; value = u; holder = holder }

module _ {V N : Type 0} where
  -- the table after a step of the pass id
  abbrev pub moved : State (Option V) (PassView V N) → List ℕ → List (mathlib.Core.Option.Option (Option V))
      → ℕ
      → PassView V N → State (Option V) (PassView V N)
  moved s words homes id w = record { words = words; homes = homes; views = set s.views id w }

  lane_stays : (views : List (PassView V N)) (id : ℕ) (v w : PassView V N) → get_elem? views id ≡ some v
      → KeepsKind v.role w.role → (seat lane : ℕ) → IsSeatOfLane views seat lane
      → IsSeatOfLane (set views id w) seat lane
  lane_stays views id v w at kind seat lane x = dite (ℕ_discrete seat id)
      (λ e. let is : x.view ≡ v = some-injective x.view v (sym x.at ∙ (ap (get_elem? views) e ∙ at)) in
      let q = lane_after v.role w.role kind x.part (ap (λ (d : PassView V N). d.role) (sym is) ∙ x.raises) in
      record {
        view = w;
        part = q.0;
        at = ap (get_elem? (set views id w)) e ∙ set_here views id w (inside views id v at);
        raises = q.1;
        of_lane = q.2 ∙ x.of_lane;
      })
      (λ e. record {
        view = x.view;
        part = x.part;
        at = set_else views id seat w e ∙ x.at;
        raises = x.raises;
        of_lane = x.of_lane;
      })

module _ {V N : Type 0} (n : ℕ) (reach : V → ℕ → ℕ) (name : V → N) (opening : V) where
  abbrev D : Type 0
  D = PassView V N

  abbrev St : Type 0
  St = State (Option V) D

  -- the pass id has the view w after its step, and the words are ws then and the value u
  pub record Steps (s : St) (t : Standing V) (id : ℕ) (v w : D) (ws : List ℕ) (u : V) : Type 0 where
    pub at : get_elem? s.views id ≡ some v
    pub same_name : w.name ≡ v.name
    pub same_opening : w.opening ≡ v.opening
    pub value_name : name u ≡ name t.value
    pub kind : KeepsKind v.role w.role
    pub wide : length ws ≡ length s.words
    pub rises : (k : ℕ) → k < n → get_or s.words k 0 ≤ get_or ws k 0
    pub others : (k : ℕ) → k < t.lanes_made → t.seat_of k ≢ id → get_or s.words k 0 ≡ get_or ws k 0
    pub others_reach : (k : ℕ) → k < t.lanes_made → t.seat_of k ≢ id → reach t.value k ≡ reach u k
    pub rest : (k : ℕ) → t.lanes_made ≤ k → k < n → get_or s.words k 0 ≡ get_or ws k 0
    pub rest_reach : (k : ℕ) → t.lanes_made ≤ k → k < n → reach t.value k ≡ reach u k
    pub within : (k : ℕ) → k < n → get_or ws k 0 ≤ reach u k
    pub word : (q : LaneView) → w.role ≡ Raises q → q.word ≡ get_or ws q.lane 0
    pub given : (q : LaneView) → w.role ≡ Raises q → q.reach_given ≡ reach u q.lane
    pub reads : (q : ReaderView) → w.role ≡ Reads q → (k : ℕ) → k < n
        → get_or q.words_read k 0 ≤ get_or ws k 0

  module _ (s : St) (t : Standing V) (id : ℕ) (v w : D) (ws : List ℕ) (u : V)
      (homes : List (mathlib.Core.Option.Option (Option V))) (holder : ℕ) (x : Steps s t id v w ws u) where
    pub shape_stays : length homes ≡ length s.homes → HasShape n reach name opening s t
        → HasShape n reach name opening (moved s ws homes id w) (stands t u holder)
    shape_stays deep h = record {
      words = x.wide ∙ h.words;
      slots = deep ∙ h.slots;
      reads = each_reader_set s.views id w (λ _ p. length p.words_read ≡ n) (λ j d _ at. h.reads j d at)
          (λ q is. let b = reader_before v.role w.role x.kind q is in b.2.reads ∙ h.reads id v x.at b.0 b.1);
      loads = each_reader_set s.views id w (λ _ p. length p.loads ≡ n) (λ j d _ at. h.loads j d at)
          (λ q is. let b = reader_before v.role w.role x.kind q is in b.2.loads ∙ h.loads id v x.at b.0 b.1);
    }

    pub names_stay : HasOneName n reach name opening s t
        → HasOneName n reach name opening (moved s ws homes id w) (stands t u holder)
    names_stay h = record {
      value = x.value_name ∙ h.value;
      passes = each_set s.views id w (λ _ d. d.name ≡ name opening) (λ j d _ at. h.passes j d at)
          (x.same_name ∙ h.passes id v x.at);
      openings = each_set s.views id w (λ _ d. d.opening ≡ opening) (λ j d _ at. h.openings j d at)
          (x.same_opening ∙ h.openings id v x.at);
    }

    pub lanes_stay : HasLanes n reach name opening s t
        → HasLanes n reach name opening (moved s ws homes id w) (stands t u holder)
    lanes_stay h = record {
      most = h.most;
      counted = each_reader_set s.views id w (λ _ p. p.lanes_made ≡ t.lanes_made)
          (λ j d _ at. h.counted j d at)
          (λ q is. let b = reader_before v.role w.role x.kind q is in b.2.made ∙ h.counted id v x.at b.0 b.1);
      has_pass = λ lane l. lane_stays s.views id v w x.at x.kind (t.seat_of lane) lane (h.has_pass lane l);
      one_pass = each_lane_set s.views id w (λ seat p. (p.lane < t.lanes_made) × (t.seat_of p.lane ≡ seat))
          (λ j d _ at. h.one_pass j d at)
          (λ q is. let b = lane_before v.role w.role x.kind q is in let was = h.one_pass id v x.at b.0 b.1 in
          let lane = b.2 in let below = was.0 in (omega arith, ap t.seat_of lane ∙ was.1));
      words = each_lane_set s.views id w (λ _ p. p.word ≡ get_or ws p.lane 0)
          (λ j d other at p is. let its = h.one_pass j d at p is in
          h.words j d at p is ∙ x.others p.lane its.0 (λ e. other (sym its.1 ∙ e)))
          x.word;
      zero = λ k a l. sym (x.rest k a l) ∙ h.zero k a l;
      same = λ k a l. sym (x.rest_reach k a l) ∙ h.same k a l;
    }

    pub reaches_stay : HasLanes n reach name opening s t → HasReaches n reach name opening s t
        → HasReaches n reach name opening (moved s ws homes id w) (stands t u holder)
    reaches_stay lanes h = record {
      reads = each_reader_set s.views id w (λ _ p. (k : ℕ) → k < n → get_or p.words_read k 0 ≤ get_or ws k 0)
          (λ j d _ at p is k l. let a = h.reads j d at p is k l in let b = x.rises k l in
          omega arith) x.reads;
      words = x.within;
      given = each_lane_set s.views id w (λ _ p. p.reach_given ≡ reach u p.lane)
          (λ j d other at p is. let its = lanes.one_pass j d at p is in
          h.given j d at p is ∙ x.others_reach p.lane its.0 (λ e. other (sym its.1 ∙ e)))
          x.given;
    }

    pub sole_stays : HasSoleReader n reach name opening s t
        → HasSoleReader n reach name opening (moved s ws homes id w) (stands t u holder)
    sole_stays h = each_reader_set s.views id w
        (λ seat p. p.splits ≡ 0 → EachReader (set s.views id w) (λ other _. other ≡ seat))
        (λ j d _ at p is z. readers j (h j d at p is z))
        (λ q is z. let b = reader_before v.role w.role x.kind q is in
        readers id (h id v x.at b.0 b.1 (sym b.2.splits ∙ z)))
      where
        readers : (seat : ℕ) → EachReader s.views (λ other _. other ≡ seat)
            → EachReader (set s.views id w) (λ other _. other ≡ seat)
        readers seat old = each_reader_set s.views id w (λ other _. other ≡ seat) (λ j d _ at. old j d at)
            (λ q is. let b = reader_before v.role w.role x.kind q is in old id v x.at b.0 b.1)

  -- a step that leaves the words of lanes and the value
  pub beside_lanes : (s : St) (r : MeetsRule n reach name opening s) (id : ℕ) (v w : D) (ws : List ℕ)
      → get_elem? s.views id ≡ some v → (w.name ≡ v.name) × (w.opening ≡ v.opening) → KeepsKind v.role w.role
      → length ws ≡ length s.words → ((k : ℕ) → k < n → get_or s.words k 0 ≡ get_or ws k 0)
      → ((q : LaneView) → w.role ≡ Raises q → v.role ≡ Raises q)
      → ((q : ReaderView) → w.role ≡ Reads q → (k : ℕ) → k < n → get_or q.words_read k 0 ≤ get_or s.words k 0)
      → Steps s r.standing id v w ws r.standing.value
  beside_lanes s r id v w ws at names kind wide same lane reads = let few = r.lanes.most in record {
    at = at;
    same_name = names.0;
    same_opening = names.1;
    value_name = refl;
    kind = kind;
    wide = wide;
    rises = λ k l. let a = same k l in omega arith;
    others = λ k l _. same k (omega arith);
    others_reach = λ _ _ _. refl;
    rest = λ k _ l. same k l;
    rest_reach = λ _ _ _. refl;
    within = λ k l. let a = r.reaches.words k l in let b = same k l in omega arith;
    word = λ q is. let its = r.lanes.one_pass id v at q (lane q is) in let below = its.0 in
        r.lanes.words id v at q (lane q is) ∙ same q.lane (omega arith);
    given = λ q is. r.reaches.given id v at q (lane q is);
    reads = λ q is k l. let a = reads q is k l in let b = same k l in omega arith;
  }

  -- the same, where the pass keeps its role
  pub same_role : (s : St) (r : MeetsRule n reach name opening s) (id : ℕ) (v w : D) (ws : List ℕ)
      → get_elem? s.views id ≡ some v → (w.name ≡ v.name) × (w.opening ≡ v.opening) → w.role ≡ v.role
      → length ws ≡ length s.words → ((k : ℕ) → k < n → get_or s.words k 0 ≡ get_or ws k 0)
      → Steps s r.standing id v w ws r.standing.value
  same_role s r id v w ws at names role wide same = beside_lanes s r id v w ws at names
      (let Kind = KeepsKind v.role in subst Kind (sym role) (same_kind v.role)) wide same
      (λ q is. sym role ∙ is) (λ q is. r.reaches.reads id v at q (sym role ∙ is))
