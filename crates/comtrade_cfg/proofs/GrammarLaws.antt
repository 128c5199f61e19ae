-- The two laws of reading: what is read is in the grammar, and nothing in it is refused.
use Rattle.std.proofs.Common.{◌≡◌, inl, inr, sym, ◌∙◌, Result, Ok, Err, IfOk, IfErr}
use Rattle.comtrade_cfg.specs.Configuration.{Configuration, cfg_view}
use Rattle.comtrade_cfg.specs.CfgText.{GivesCfg, configuration_of}
use Rattle.comtrade_cfg.specs.Grammar.{IsCfgText, ReadsTheGrammar}
use Rattle.comtrade_cfg.specs.declared.cfg.Cfg.{Cfg}
use Rattle.cfg_fields.specs.declared.fault.CfgFault.{CfgFault}
use Rattle.cfg_fields.specs.declared.fault.CfgFault.TheVariants as fault
use Rattle.comtrade_cfg.proofs.GrammarFound as GrammarFound
use Rattle.comtrade_cfg.proofs.GrammarOnly as GrammarOnly
use Rattle.pq_words.specs.Text.{Text}

-- reading and grammar agree
pub reads_the_grammar : ReadsTheGrammar
reads_the_grammar = record { found = GrammarFound.found; only = GrammarOnly.only }

-- an answer that gives what the text says is in the grammar
pub found_by : (result : Result Cfg CfgFault) (text : Text) → GivesCfg result (configuration_of text) →
    IfOk result (λ cfg. IsCfgText text (cfg_view cfg))
found_by (Ok cfg) text gives = GrammarFound.found text (cfg_view cfg) gives
found_by (Err e) text gives = tt

no_fault : (text : Text) (c : Configuration) (e : CfgFault) → configuration_of text ≡ Ok c →
    configuration_of text ≡ Err e → ⊥
no_fault text c e says refuses = let same : Ok c ≡ Err e = sym says ∙ refuses in absurd cc

-- and no text in it is refused, want of memory apart
pub only_by : (result : Result Cfg CfgFault) (text : Text) → GivesCfg result (configuration_of text) →
    (c : Configuration) →
    IsCfgText text c → IfErr result (λ e. e ≡ fault.OutOfMemory)
only_by (Ok cfg) text gives c is = tt
only_by (Err e) text (inl free) c is = free
only_by (Err e) text (inr refuses) c is = absurd (no_fault text c e (GrammarOnly.only text c is) refuses)
