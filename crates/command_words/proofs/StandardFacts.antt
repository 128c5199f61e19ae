-- Worked words, so that a wrong rule in the specs does not check.
use Rattle.std.proofs.Common.{◌≡◌, ◌++◌, [], ◌∷◌, map, refl, replicate, Some, None, Ok, Err}
use Rattle.std.specs.Prelude.{codes}
use Rattle.clap.proofs.OnLiterals.{clap_on_literals}
use Rattle.command_words.specs.Commands.{Analyse, Check, Emit, Generate, Intervals, Replay, check_task, emit_task, generate_task, measured, measurement_of, named_task, replay_task, task_of}
use Rattle.command_words.specs.Simple.{check_app, emit_app, generate_app, measuring_app, replay_app, said_by}
use Rattle.command_words.specs.Values.{channels_of, settings_of}
use Rattle.command_words.specs.declared.command.Part.TheVariants as part
use Rattle.command_words.specs.declared.command.WordsFault.TheVariants as fault

-- each command; the words of a measurement in any order, and behind `--`
pub check_words : map task_of
    ((codes "check" ∷ codes "a.cfg" ∷ []) ∷ (codes "check" ∷ codes "--" ∷ codes "-" ∷ [])
    ∷ (codes "check" ∷ []) ∷ (codes "check" ∷ codes "a.cfg" ∷ codes "b.cfg" ∷ [])
    ∷ (codes "check" ∷ codes "-h" ∷ []) ∷ [])
    ≡ Ok (Check (codes "a.cfg")) ∷ Ok (Check (codes "-")) ∷ replicate 3 (Err fault.NotUnderstood)
unfolding named_task check_task said_by check_app clap_on_literals
check_words = refl

pub every_option : task_of
    (codes "analyse" ∷ codes "--udin" ∷ codes "230000" ∷ codes "--channels=3,1" ∷ codes "a.cfg"
    ∷ codes "--reference" ∷ codes "3" ∷ codes "--dip=850" ∷ codes "--swell" ∷ codes "1200"
    ∷ codes "--interruption" ∷ codes "100" ∷ codes "--hysteresis" ∷ codes "30" ∷ codes "--" ∷ codes "-b" ∷ [])
    ≡ Ok (Analyse (record {
      settings =
          record { udin_mv = 230000; dip = 850; swell = 1200; interruption = 100; hysteresis = 30 };
      channels = Some (3 ∷ 1 ∷ []);
      reference = Some 3;
      cfg = codes "a.cfg";
      dat = codes "-b";
    }))
unfolding named_task measured settings_of said_by measuring_app clap_on_literals
every_option = refl

pub usual_options : task_of
    (codes "intervals" ∷ codes "--udin=1" ∷ codes "-" ∷ codes "b" ∷ [])
    ≡ Ok (Intervals (record {
      settings = record { udin_mv = 1; dip = 900; swell = 1100; interruption = 50; hysteresis = 20 };
      channels = None;
      reference = None;
      cfg = codes "-";
      dat = codes "b";
    }))
unfolding named_task measured settings_of said_by measuring_app clap_on_literals
usual_options = refl

-- a replay has a third positional
pub replays : map task_of
    ((codes "replay" ∷ codes "--udin=1" ∷ codes "a" ∷ codes "b" ∷ codes "c" ∷ [])
    ∷ (codes "replay" ∷ codes "--udin=1" ∷ codes "a" ∷ codes "b" ∷ []) ∷ [])
    ≡ Ok (Replay (record {
      settings = record { udin_mv = 1; dip = 900; swell = 1100; interruption = 50; hysteresis = 20 };
      channels = None;
      reference = None;
      cfg = codes "a";
      dat = codes "b";
    }) (codes "c")) ∷ Err fault.NotUnderstood ∷ []
unfolding named_task replay_task measured settings_of said_by replay_app measuring_app clap_on_literals
replays = refl

-- a seed is one to twenty digits, at most 2^64 - 1
pub generated_words : map task_of
    ((codes "emit" ∷ codes "cfg" ∷ codes "1" ∷ [])
    ∷ (codes "emit" ∷ codes "dat" ∷ codes "18446744073709551615" ∷ [])
    ∷ (codes "generate" ∷ codes "00000000000000000007" ∷ [])
    ∷ (codes "emit" ∷ codes "hdr" ∷ codes "1" ∷ []) ∷ (codes "emit" ∷ codes "cfg" ∷ [])
    ∷ (codes "generate" ∷ codes "18446744073709551616" ∷ [])
    ∷ (codes "generate" ∷ codes "000000000000000000007" ∷ []) ∷ [])
    ≡ Ok (Emit part.Cfg 1) ∷ Ok (Emit part.Dat 18446744073709551615) ∷ Ok (Generate 7)
    ∷ replicate 4 (Err fault.NotUnderstood)
unfolding named_task emit_task generate_task said_by emit_app generate_app clap_on_literals
generated_words = refl

-- no declared voltage, one twice, one too great, a threshold of 2001, an option of another name; an unknown
-- command, and none
pub usage : map task_of
    ((codes "intervals" ∷ codes "a" ∷ codes "b" ∷ [])
    ∷ (codes "intervals" ∷ codes "--udin=1" ∷ codes "--udin=1" ∷ codes "a" ∷ codes "b" ∷ [])
    ∷ (codes "intervals" ∷ codes "--udin=1000000001" ∷ codes "a" ∷ codes "b" ∷ [])
    ∷ (codes "intervals" ∷ codes "--udin=1" ∷ codes "--dip=2001" ∷ codes "a" ∷ codes "b" ∷ [])
    ∷ (codes "intervals" ∷ codes "--ud=1" ∷ codes "a" ∷ codes "b" ∷ [])
    ∷ (codes "interval" ∷ codes "--udin=1" ∷ codes "a" ∷ codes "b" ∷ []) ∷ [] ∷ [])
    ≡ replicate 7 (Err fault.NotUnderstood)
unfolding named_task measured settings_of said_by measuring_app clap_on_literals
usage = refl

-- numbers of channels in their order; none, one too great, a blank, and nothing at all
pub channel_lists : map channels_of
    (codes "3,1,003" ∷ codes "999" ∷ codes "1,,2" ∷ codes "1000" ∷ codes "1, 2" ∷ codes "" ∷ [])
    ≡ Ok (3 ∷ 1 ∷ 3 ∷ []) ∷ Ok (999 ∷ []) ∷ replicate 4 (Err fault.NotUnderstood)
channel_lists = refl
