use Rattle.std.proofs.Common.{ℕ, Result, sym, ◌∙◌, subst, arith}
use Rattle.catalog.specs.declared.fault.VolumeFault.{VolumeFault}
use Rattle.layout.specs.Entries.{first_at}
use Rattle.survey.specs.Reads.Reads.{none, more}
use Rattle.survey.specs.Asks.{Levelled}
use Rattle.survey.proofs.Tellings.{exit}
use Rattle.survey.proofs.Levels.{down_start, down_more, down_ends, down-last, levelled, levelled-read, unlevelled, word-is}
use Rattle.survey.proofs.page.leaf_level.Goals as goal

pub loop-level-init : goal.loop-level-init
loop-level-init g c = let r = c.requires.size in let i = c.requires.inside in record { reads = none; down = down_start _ (omega arith) }

pub loop-level-preserved : goal.loop-level-preserved
loop-level-preserved g c =
    record {
      reads = more c.loop-level.invariant.reads c.in_ok-get.ensures.done;
      down = down_more c.loop-level.invariant.down (omega arith) c.in_ok-get.ensures.rule c.from.ensures c.args.size c.unwrap.result c.in-Some.child c.requires.size (word-is c.get.new.into first_at _ c.unwrap.ensures c.get_word.ensures) (sym c.in-Some.is ∙ c.sector.ensures);
    }

pub returns-in_err-get : goal.returns-in_err-get
returns-in_err-get g c =
    subst (λ (r : Result ℕ VolumeFault). Levelled g.D.Disk.meaning g.D.Disk.does c.args.disk.now r c.get.new.self) (sym (exit _ c.from_residual.ensures.1))
    (unlevelled c.loop-level.invariant.reads c.loop-level.invariant.down c.in_err-get.ensures.rule c.in_err-get.ensures.done c.from.ensures)

pub returns-in-None : goal.returns-in-None
returns-in-None g c =
    levelled-read c.loop-level.invariant.reads c.loop-level.invariant.down c.in_ok-get.ensures.rule c.in_ok-get.ensures.done
    (down_ends c.loop-level.invariant.down (omega arith) c.in_ok-get.ensures.rule c.from.ensures c.args.size c.unwrap.result c.requires.size (word-is c.get.new.into first_at _ c.unwrap.ensures c.get_word.ensures) (sym c.in-None.is ∙ c.sector.ensures))

pub returns : goal.returns
returns g c = let l = c.loop-level.auto.level-end in levelled c.loop-level.invariant.reads c.loop-level.invariant.down (down-last c.loop-level.invariant.down (omega (arith, l)))
