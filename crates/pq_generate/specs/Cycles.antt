-- What contracts see of the cycles that are written one after another, where one disturbance may lie.
use Rattle.std.specs.Prelude.{ℕ, ◌*◌, ℤ, List, Option}
use Rattle.std.specs.Option.{option_to_list}
use Rattle.pq_generate.specs.GeneratedRecording.{disturbed_by, records_between}
use Rattle.pq_generate.specs.MeasuredRecording.{samples_between}
use Rattle.pq_generate.specs.declared.disturbance.Disturbance.{Disturbance}
use Rattle.pq_words.specs.Text.{Text}

-- what a channel has of a count of the sine, in a cycle
abbrev pub count_in_cycle : Option Disturbance → ℕ → ℤ → ℕ → ℤ
count_in_cycle d cycle count channel = disturbed_by (option_to_list d) channel cycle count

-- the records of the cycles from one to another, which is not included
abbrev pub records_of_cycles : Option Disturbance → ℕ → ℕ → Text
records_of_cycles d start end = records_between (option_to_list d) (24 * start) (24 * end)

-- a channel's samples in the cycles from one to another, which is not included
abbrev pub sampled : Option Disturbance → ℕ → ℕ → ℕ → List ℤ
sampled d channel start end = samples_between (option_to_list d) channel (24 * start) (24 * end)
