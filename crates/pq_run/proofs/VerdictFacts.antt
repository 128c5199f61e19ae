-- Worked verdicts: refusals in their order, and jobs.
use Rattle.std.proofs.Common.{◌≡◌, ℕ, List, [], ◌∷◌, ◌++◌, map, take, replicate, refl, Option, None, Some, Ok, Err}
use Rattle.command_words.specs.Commands.{Analyse, Check, Intervals, Measurement, Replay}
use Rattle.command_words.specs.declared.command.WordsFault.TheVariants as words_fault
use Rattle.std.specs.Fmt.{digits}
use Rattle.std.specs.Prelude.{codes, slice_set}
use Rattle.aggregate.specs.Aggregation.{short_groups, ten_groups, two_hour_groups}
use Rattle.freq10s.specs.Frequency.{readings}
use Rattle.comtrade_cfg.proofs.TwoIntervalsCfg.{with_line_ends}
use Rattle.comtrade_cfg.specs.CfgText.{analogue_fields, channel_lines, configuration_ahead, configuration_of, lines_behind, station_fields, status_fields}
use Rattle.cfg_fields.specs.Fields.{channel_count, decimal_field, decimal_text, frequency_field, leap_field, number_field, position_field, rate_field, samples_field, text_field}
use Rattle.comtrade_cfg.specs.Selecting.{selected_of}
use Rattle.cfg_fields.specs.declared.fault.Quantity.TheVariants as quantity
use Rattle.comtrade_dat.specs.Samples.{samples_of}
use Rattle.comtrade_dat.specs.declared.dat_fault.DatFault.TheVariants as fault
use Rattle.event_detect.specs.declared.limits.Settings.{Settings}
use Rattle.event_detect.specs.VoltageEvent.{event_from, events, extents}
use Rattle.half_cycle.specs.HalfCycleWindow.{windows, windows_over}
use Rattle.jiff_core.specs.Calendar.{day_count, days_from_civil, days_of_months, days_of_years}
use Rattle.pq_base.specs.Decimal.{decimal_of}
use Rattle.pq_base.specs.Outside.{Files}
use Rattle.pq_run.specs.Check.{check_course}
use Rattle.pq_run.specs.Commands.{analyse_task_course, still_task_course}
use Rattle.pq_replay.specs.AnswerLines.{answer_lines, replay_text}
use Rattle.pq_replay.specs.LineGrammar.{command_read, line_of_parts}
use Rattle.pq_replay.specs.Schedule.{event_passed, lines_from, phases_after_steps, schedule_of, step_passed, take_passed}
use Rattle.pq_report.specs.ReportText.{header}
use Rattle.pq_run.specs.Measuring.{measuring_course, report_text}
use Rattle.pq_run.specs.RecordingFiles.{selected_configuration}
use Rattle.pq_run.specs.Replaying.{replay_course, schedule_answers}
use Rattle.pq_run.specs.SettingsLimits.{settings_limits}
use Rattle.pq_course.specs.Verdict.{AsksAll, AsksFront, Course, Job, Refused, verdict}
use Rattle.status_text.specs.declared.status.Status.{Status}
use Rattle.status_text.specs.declared.status.Status.TheVariants as status
use Rattle.pq_sequence.specs.BasicInterval.{basic_runs, front_of, fronts}
use Rattle.polyphase.specs.PolyphaseEvent.{all_polyphase_events, begins, conditions, ends, latest, merged_windows}
use Rattle.pq_sequence.specs.MeasuredRecording.{tick_places}
use Rattle.pq_sequence.specs.SequentialResult.{items_under, sequential}
use Rattle.pq_time.specs.Moment.{written_moment}
use Rattle.pq_time.specs.Tick.{ticks}
use Rattle.pq_time.specs.Time.{place_of, time_of}
use Rattle.pq_time.specs.Written.{clock_time_of, date_of}
use Rattle.pq_words.specs.First.{first_between, first_of}
use Rattle.pq_words.specs.Sorted.{in_order}
use Rattle.pq_words.specs.Steps.{numbers_from, steps_from}
use Rattle.pq_words.specs.Successors.{successors}
use Rattle.pq_words.specs.Text.{Text}
use Rattle.ten_twelve.specs.Run.{runs}
use Rattle.zero_cross.specs.Boundary.{boundaries, cycle_boundaries, first_boundary, rule_of}

-- a cfg with these numbers of channels, channel lines, sampling rate and number of samples
abbrev cfg_with : Text → List Text → Text → Text
cfg_with counts channels sampling =
    with_line_ends (codes "demo,pqa,1999" ∷ counts ∷ channels
    ++ codes "50" ∷ codes "1" ∷ sampling ∷ codes "01/03/2024,12:00:01.000000" ∷ codes
    "01/03/2024,12:00:01.000000" ∷ codes "BINARY" ∷ codes "1" ∷ [])

-- an analogue channel line of this unit and coefficient
abbrev channel : Text → Text → Text
channel unit a = codes "1,UA,A,," ++ unit ++ codes "," ++ a ++ codes ",0,0,-32767,32767,1,1,P"

abbrev one_channel : Text → Text → Text → Text
one_channel unit a sampling = cfg_with (codes "1,1A,0D") (channel unit a ∷ []) sampling

-- the cfg of n records of the worked recordings
abbrev worked_cfg : Text → Text
worked_cfg n = one_channel (codes "V") (codes "0.0325") (codes "1200," ++ n)

-- a declared voltage in millivolts, and the usual thresholds and hysteresis
abbrev usual_settings : ℕ → Settings
usual_settings udin_mv = record {
  udin_mv = udin_mv;
  dip = 900;
  swell = 1100;
  interruption = 50;
  hysteresis = 20;
}

-- the measurement of all channels at 230 V under the usual thresholds
abbrev measurement : Measurement
measurement = record {
  settings = usual_settings 230000;
  channels = None;
  reference = None;
  cfg = codes "a.cfg";
  dat = codes "a.dat";
}

abbrev course : Course Status
course = measuring_course measurement

abbrev files_with : Text → Text → Option Files
files_with cfg dat = Some ((codes "a.cfg", cfg) ∷ (codes "a.dat", dat) ∷ [])

-- no sample, and a schedule
abbrev files_and_schedule : Text → Option Files
files_and_schedule schedule = Some ((codes "a.cfg", worked_cfg (codes "0")) ∷ (codes "a.dat", [])
    ∷ (codes "a.txt", schedule) ∷ [])

-- a record of this number, with count 0, and three that follow one another
abbrev dat_record : ℕ → Text
dat_record n = n ∷ replicate 9 0

abbrev three_records : Text
three_records = dat_record 7 ++ dat_record 8 ++ dat_record 9

-- the refusals of the dat, and of files that are not there: a byte less, a byte more, a missing count before
-- a byte more, a sample number before a missing count
pub dat_verdicts : map (verdict course)
    (files_with (worked_cfg (codes "3")) (take 29 three_records)
    ∷ files_with (worked_cfg (codes "3")) (three_records ++ 0 ∷ [])
    ∷ files_with (worked_cfg (codes "3")) (slice_set (three_records ++ 0 ∷ []) 19 0x80)
    ∷ files_with (worked_cfg (codes "3")) (slice_set (dat_record 7 ++ dat_record 9 ++ dat_record 10) 19 0x80)
    ∷ Some [] ∷ Some ((codes "a.cfg", worked_cfg (codes "3")) ∷ []) ∷ None ∷ [])
    ≡ Some (Refused (status.DatFault (fault.Short 3))) ∷ Some (Refused (status.DatFault (fault.Long 1)))
    ∷ Some (Refused (status.DatFault (fault.Missing 2 1)))
    ∷ Some (Refused (status.DatFault (fault.Number 2 9)))
    ∷ Some (Refused (status.NoFile 1)) ∷ Some (Refused (status.NoFile 2)) ∷ None ∷ []
unfolding settings_limits selected_configuration selected_of samples_of digits text_field
    number_field position_field decimal_text decimal_field channel_count frequency_field rate_field
    samples_field leap_field station_fields analogue_fields status_fields configuration_of configuration_ahead
    lines_behind channel_lines decimal_of written_moment date_of clock_time_of days_from_civil day_count
    days_of_years days_of_months
dat_verdicts = refl

-- two channels of these units and coefficients
abbrev two_channels : Text → Text → Text → Text → Text
two_channels unit a other_unit other_a = cfg_with (codes "2,2A,0D")
    (channel unit a ∷ (codes "2,UB,B,," ++ other_unit ++ codes "," ++ other_a
    ++ codes ",0,0,-32767,32767,1,1,P") ∷ []) (codes "1200,3")

-- the refusals of the cfg, with no dat: the coefficient and the rate at their limits, a current, a fault
-- after its numbers of channels, a voltage beside a state or a current, two voltages, of which one may be
-- past the limit, and no channel
pub cfg_verdicts : map (λ cfg. verdict course (Some ((codes "a.cfg", cfg) ∷ [])))
    (one_channel (codes "V") (codes "305.2") (codes "1200,3")
    ∷ one_channel (codes "V") (codes "305.1") (codes "1200,3")
    ∷ one_channel (codes "V") (codes "0.0325") (codes "800,3")
    ∷ one_channel (codes "V") (codes "0.0325") (codes "799.999999,3")
    ∷ one_channel (codes "A") (codes "305.2") (codes "1200,3")
    ∷ cfg_with (codes "2,1A,1D") (channel (codes "V") (codes "1") ∷ codes "1,,,,0" ∷ []) (codes "1200,x")
    ∷ cfg_with (codes "2,1A,1D") (channel (codes "V") (codes "1") ∷ codes "1,,,,0" ∷ []) (codes "1200,3")
    ∷ two_channels (codes "V") (codes "1") (codes "A") (codes "1")
    ∷ two_channels (codes "V") (codes "1") (codes "kV") (codes "0.001")
    ∷ two_channels (codes "V") (codes "1") (codes "V") (codes "305.2")
    ∷ cfg_with (codes "0,0A,0D") [] (codes "1200,3") ∷ [])
    ≡ Some (Refused (status.Limit quantity.Value 3))
    ∷ Some (Refused (status.NoFile 2))
    ∷ Some (Refused (status.NoFile 2))
    ∷ Some (Refused (status.Limit quantity.Rate 6))
    ∷ Some (Refused (status.Selection 0))
    ∷ Some (Refused (status.CfgFault 7 2))
    ∷ Some (Refused (status.NoFile 2))
    ∷ Some (Refused (status.NoFile 2))
    ∷ Some (Refused (status.NoFile 2))
    ∷ Some (Refused (status.Limit quantity.Value 4))
    ∷ Some (Refused (status.Selection 0)) ∷ []
unfolding settings_limits selected_configuration selected_of samples_of digits text_field
    number_field position_field decimal_text decimal_field channel_count frequency_field rate_field
    samples_field leap_field station_fields analogue_fields status_fields configuration_of configuration_ahead
    lines_behind channel_lines decimal_of written_moment date_of clock_time_of days_from_civil day_count
    days_of_years days_of_months
cfg_verdicts = refl

-- a cfg of no sample and an empty dat are a job: the header alone
pub empty_recording : verdict course (files_with (worked_cfg (codes "0")) [])
    ≡ Some (Job (codes "kind,channel,start,end,from,to,tick,value,count,mark\n"))
unfolding settings_limits selected_configuration selected_of samples_of digits text_field
    number_field position_field decimal_text decimal_field channel_count frequency_field rate_field
    samples_field leap_field station_fields analogue_fields status_fields configuration_of configuration_ahead
    lines_behind channel_lines decimal_of written_moment date_of clock_time_of days_from_civil day_count
    days_of_years days_of_months report_text header sequential in_order items_under readings short_groups
    ten_groups two_hour_groups all_polyphase_events merged_windows conditions begins ends latest events
    extents event_from successors windows windows_over tick_places ticks place_of time_of fronts front_of
    basic_runs runs cycle_boundaries boundaries first_boundary rule_of first_between first_of numbers_from
    steps_from
empty_recording = refl

-- a dip of 6 percent of the declared voltage
abbrev out_of_order : Settings
out_of_order = record (usual_settings 230000) { dip = 60 }

-- a replay: the dat is judged before the schedule is asked for, and then the schedule; an empty one is a job
pub replays : map (verdict (replay_course measurement (codes "a.txt")))
    (files_with (worked_cfg (codes "3")) (take 29 three_records) ∷ files_with (worked_cfg (codes "0")) []
    ∷ files_and_schedule (codes "look 0\npost 0 1\n") ∷ files_and_schedule [] ∷ [])
    ≡ Some (Refused (status.DatFault (fault.Short 3))) ∷ Some (Refused (status.NoFile 3))
    ∷ Some (Refused (status.ScheduleFault 2)) ∷ Some (Job []) ∷ []
unfolding settings_limits schedule_answers selected_configuration selected_of samples_of digits text_field
    number_field position_field decimal_text decimal_field channel_count frequency_field rate_field
    samples_field leap_field station_fields analogue_fields status_fields configuration_of configuration_ahead
    lines_behind channel_lines decimal_of written_moment date_of clock_time_of days_from_civil day_count
    days_of_years days_of_months schedule_of lines_from phases_after_steps step_passed take_passed
    event_passed line_of_parts command_read replay_text answer_lines
replays = refl

-- no file is needed for words that are not understood, for commands of the other call, and for thresholds out
-- of order
pub refused_without_files : map (λ c. verdict c None)
    (still_task_course (Err words_fault.NotUnderstood) ∷ still_task_course (Ok (Analyse measurement))
    ∷ analyse_task_course (Err words_fault.NotUnderstood) ∷ analyse_task_course (Ok (Intervals measurement))
    ∷ analyse_task_course (Ok (Check (codes "a.cfg")))
    ∷ analyse_task_course (Ok (Replay measurement (codes "a.txt")))
    ∷ still_task_course (Ok (Replay (record measurement { settings = out_of_order }) (codes "a.txt")))
    ∷ measuring_course (record measurement { settings = out_of_order }) ∷ [])
    ≡ replicate 6 (Some (Refused status.Usage)) ++ replicate 2 (Some (Refused status.BadLimits))
unfolding settings_limits
refused_without_files = refl

-- wanted channels that are not there or come twice, and a reference that is not wanted
pub selections : map (λ m. verdict (measuring_course m) (files_with (worked_cfg (codes "3")) []))
    (record measurement { channels = Some (9 ∷ []) } ∷ record measurement { channels = Some (1 ∷ 1 ∷ []) }
    ∷ record measurement { channels = Some (1 ∷ []); reference = Some 2 } ∷ [])
    ≡ Some (Refused (status.Selection 9)) ∷ Some (Refused (status.Selection 1))
    ∷ Some (Refused (status.Selection 2)) ∷ []
unfolding settings_limits selected_configuration selected_of samples_of digits text_field
    number_field position_field decimal_text decimal_field channel_count frequency_field rate_field
    samples_field leap_field station_fields analogue_fields status_fields configuration_of configuration_ahead
    lines_behind channel_lines decimal_of written_moment date_of clock_time_of days_from_civil day_count
    days_of_years days_of_months
selections = refl

-- the refusals of `check`: no such file, no line, line 2 with two fields
pub check_verdicts : map (λ f. verdict (check_course (codes "a.cfg")) f)
    (Some [] ∷ Some ((codes "a.cfg", []) ∷ []) ∷ Some ((codes "a.cfg", codes "demo,pqa,1999\n1,1A\n") ∷ []) ∷
    None ∷ [])
    ≡ Some (Refused (status.NoFile 1)) ∷ Some (Refused (status.CfgFault 1 0)) ∷ Some
    (Refused (status.CfgFault 2 0)) ∷ None ∷ []
unfolding configuration_of configuration_ahead lines_behind station_fields text_field number_field
check_verdicts = refl

-- ---- names

-- where the cfg is good, it and the dat are asked for, and nothing else
pub names_of_both : AsksAll course
    (Some ((codes "a.cfg", worked_cfg (codes "3")) ∷ [])) (codes "a.cfg" ∷ codes "a.dat" ∷ [])
unfolding settings_limits selected_configuration selected_of samples_of digits text_field
    number_field position_field decimal_text decimal_field channel_count frequency_field rate_field
    samples_field leap_field station_fields analogue_fields status_fields configuration_of configuration_ahead
    lines_behind channel_lines decimal_of written_moment date_of clock_time_of days_from_civil day_count
    days_of_years days_of_months
names_of_both =
    (Some (worked_cfg (codes "3")), codes "a.dat" ∷ [], refl, refl, (None, [], refl, refl, refl))

-- where it isn't there, nothing but the cfg
pub names_without_cfg : AsksAll course (Some []) (codes "a.cfg" ∷ [])
unfolding settings_limits
names_without_cfg = (None, [], refl, refl, refl)

-- no other name comes first, and the cfg's doesn't come twice
pub no_name_of_its_own : AsksFront course (Some []) (codes "a" ∷ []) → ⊥
unfolding settings_limits
no_name_of_its_own (later, (found, rest, here, same, asked)) = cc

pub no_name_twice : AsksFront course (Some []) (codes "a.cfg" ∷ codes "a.cfg" ∷ []) → ⊥
unfolding settings_limits
no_name_twice (later, (None, rest, here, same, asked)) = cc
no_name_twice (later, (Some bytes, rest, here, same, asked)) = cc

-- words that are not understood ask for nothing
pub no_names : AsksAll (still_task_course (Err words_fault.NotUnderstood)) None []
no_names = refl
