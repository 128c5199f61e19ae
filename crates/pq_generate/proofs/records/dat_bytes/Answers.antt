use Rattle.std.proofs.Common.{◌≡◌, ◌+◌, ◌*◌, ◌++◌, sym, ◌∙◌, ap, arith, refl, [], ◌∷◌, suc, add-one}
use Rattle.pq_generate.proofs.RecordLemmas.{index_pushed, records_behind, records_join, records_none}
use Rattle.pq_generate.specs.GeneratedRecording.{disturbance_by, disturbances, next_number, number_after, records_between}
use Rattle.pq_generate.proofs.records.dat_bytes.Goals as goal

pub loop-index-init : goal.loop-index-init
unfolding number_after
loop-index-init c = record {
  number = refl;
  records = c.in_ok-dat.ensures.items ∙ sym (records_none (disturbances c.args.seed) 0);
}

pub loop-index-preserved : goal.loop-index-preserved
unfolding number_after
loop-index-preserved c =
    let seed = c.args.seed in
    let index = c.loop-index.index in
    let number : c.next_number-number.result ≡ number_after seed (suc index) =
    c.next_number-number.ensures ∙ ap next_number c.loop-index.invariant.number in
    let pushed : c.push_cycles.new.dat.items ≡ c.loop-index.dat.items ++ records_between
    (c.new-disturbance.result ∷ []) (24 * (3000 * index)) (24 * (3000 * index + 3000)) =
    c.in_ok-push_cycles.ensures in
    record {
      number = number ∙ ap (number_after seed) (sym (add-one index));
      records = pushed
          ∙ ap (λ dat. dat ++ records_between (c.new-disturbance.result ∷ []) (24 * (3000 * index))
          (24 * (3000 * index + 3000))) c.loop-index.invariant.records
          ∙ ap (λ d. records_between (disturbances seed) 0 (24 * (3000 * index)) ++ records_between (d ∷ [])
          (24 * (3000 * index)) (24 * (3000 * index + 3000)))
          (c.new-disturbance.ensures ∙ ap (disturbance_by index) number)
          ∙ index_pushed seed index c.loop-index-test.true;
    }

pub returns : goal.returns
returns c =
    let seed = c.args.seed in
    let index = c.loop-index.index in
    let ten : index ≡ 10 = omega arith in
    let pushed : c.push_cycles-2.new.dat.items ≡ c.loop-index.dat.items ++ records_between [] 720000 722400 =
    c.in_ok-push_cycles-2.ensures in
    pushed
    ∙ ap (λ dat. dat ++ records_between [] 720000 722400) c.loop-index.invariant.records
    ∙ ap (λ k. records_between (disturbances seed) 0 (24 * (3000 * k)) ++ records_between [] 720000 722400)
    ten
    ∙ ap (λ rest. records_between (disturbances seed) 0 720000 ++ rest) (records_behind seed)
    ∙ records_join (disturbances seed) 0 720000 722400 (omega arith) (omega arith)
