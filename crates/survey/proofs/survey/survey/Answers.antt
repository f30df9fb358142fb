use Rattle.std.proofs.Common.{Result, sym, ap, ◌∙◌, subst}
use Rattle.catalog.specs.declared.fault.VolumeFault.{VolumeFault}
use Rattle.catalog.specs.Questions.{good_size}
use Rattle.survey.specs.declared.survey.Counts.{Counts}
use Rattle.survey.specs.Surveys.{Surveys}
use Rattle.survey.proofs.Tellings.{exit}
use Rattle.survey.proofs.Surveying.{empty-new, survey-size, survey-level, survey-counts, survey-all, survey-refused}
use Rattle.survey.proofs.survey.survey.Goals as goal

pub of-requires : goal.of-requires
of-requires g c =
    let s = c.in_ok-size.ensures in
    let h = survey-counts c.args.disk.now c.leaf_level.new.disk c.ask_page.new.disk c.in_ok-size.size c.in_ok-leaf_level.leaf_level c.new-findings.result c.args.rows.now (record { found = c.ask_page.new.findings; rows = c.ask_page.new.rows })
    (ap good_size s.1 ∙ s.0) (s.1 ∙ c.size.ensures.is) c.in_ok-leaf_level.ensures c.new-findings.ensures.stands c.size.ensures.sound c.in_ok-ask_page.ensures in
    record { files = h.0; inside = h.1 }

pub returns-in_err-size : goal.returns-in_err-size
returns-in_err-size g c =
    subst (λ (r : Result Counts VolumeFault). Surveys g.D.Disk.meaning g.D.Disk.does c.args.disk.now c.args.rows.now r c.args.disk.now c.new.result.met c.args.rows.now) (sym (exit _ c.from_residual.ensures.1))
    (survey-size c.size.ensures.is c.in_err-size.ensures (empty-new _ c.new.ensures))

pub returns-in_err-leaf_level : goal.returns-in_err-leaf_level
returns-in_err-leaf_level g c =
    let s = c.in_ok-size.ensures in
    subst (λ (r : Result Counts VolumeFault). Surveys g.D.Disk.meaning g.D.Disk.does c.args.disk.now c.args.rows.now r c.leaf_level.new.disk c.new.result.met c.args.rows.now) (sym (exit _ c.from_residual-in_err-leaf_level.ensures.1))
    (survey-level (ap good_size (sym (s.1 ∙ c.size.ensures.is)) ∙ (ap good_size s.1 ∙ s.0)) _ c.in_err-leaf_level.ensures (empty-new _ c.new.ensures))

pub returns-in_err-ask_page : goal.returns-in_err-ask_page
returns-in_err-ask_page g c =
    let s = c.in_ok-size.ensures in
    subst (λ (r : Result Counts VolumeFault). Surveys g.D.Disk.meaning g.D.Disk.does c.args.disk.now c.args.rows.now r c.ask_page.new.disk c.new.result.met c.ask_page.new.rows) (sym (exit _ c.from_residual-in_err-ask_page.ensures.1))
    (survey-refused c.args.disk.now c.leaf_level.new.disk c.ask_page.new.disk c.in_ok-size.size c.in_ok-leaf_level.leaf_level c.new-findings.result c.args.rows.now (record { found = c.ask_page.new.findings; rows = c.ask_page.new.rows })
    (ap good_size s.1 ∙ s.0) (s.1 ∙ c.size.ensures.is) c.in_ok-leaf_level.ensures c.new-findings.ensures.stands _ c.in_err-ask_page.ensures (empty-new _ c.new.ensures))

pub returns : goal.returns
returns g c =
    let s = c.in_ok-size.ensures in
    let o = c.of.ensures in
    survey-all c.args.disk.now c.leaf_level.new.disk c.ask_page.new.disk c.in_ok-size.size c.in_ok-leaf_level.leaf_level c.new-findings.result c.args.rows.now (record { found = c.ask_page.new.findings; rows = c.ask_page.new.rows })
    (ap good_size s.1 ∙ s.0) (s.1 ∙ c.size.ensures.is) c.in_ok-leaf_level.ensures c.new-findings.ensures.stands c.size.ensures.sound c.in_ok-ask_page.ensures _ o.names o.pages o.files o.free
