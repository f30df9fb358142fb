use Rattle.std.proofs.Common.{ℕ, ◌<◌, [], Result, sym, refl, ap, ◌∙◌, subst}
use Rattle.numbers.specs.declared.length.Length.{Length}
use Rattle.catalog.specs.declared.fault.VolumeFault.{VolumeFault}
use Rattle.catalog.specs.Questions.{good_size}
use Rattle.survey.specs.Surveys.{Fetches}
use Rattle.survey.proofs.Tellings.{exit}
use Rattle.survey.proofs.Files.{parts}
use Rattle.survey.proofs.Fetching.{of, fetch-size, fetch-head, fetch-stopped, fetch-all, fetch-lost}
use Rattle.survey.proofs.survey.read_file.Goals as goal

pub returns-in_err-size : goal.returns-in_err-size
returns-in_err-size g c =
    subst (λ (r : Result Length VolumeFault). Fetches g.D.Disk.meaning g.D.Disk.does c.args.disk.now c.args.first.0 c.args.into.now r c.args.disk.now c.args.into.now) (sym (exit _ c.from_residual.ensures.1)) (fetch-size c.size.ensures.is c.in_err-size.ensures)

pub returns-in_err-header : goal.returns-in_err-header
returns-in_err-header g c =
    let s = c.in_ok-size.ensures in
    let h = c.in_err-header.ensures in
    subst (λ (r : Result Length VolumeFault). Fetches g.D.Disk.meaning g.D.Disk.does c.args.disk.now c.args.first.0 c.args.into.now r c.read_head.new.disk c.args.into.now) (sym (exit _ c.from_residual-in_err-header.ensures.1))
    (fetch-head c.args.disk.now c.read_head.new.disk c.in_ok-size.size c.args.first.0 c.args.into.now (ap good_size s.1 ∙ s.0) (s.1 ∙ c.size.ensures.is) c.in_err-header.field-0.0 h.told h.fault)

pub returns-in_err-ask_links : goal.returns-in_err-ask_links
returns-in_err-ask_links g c =
    let s = c.in_ok-size.ensures in
    let h = c.in_ok-header.ensures in
    let z = s.1 ∙ c.size.ensures.is in
    subst (λ (r : Result Length VolumeFault). Fetches g.D.Disk.meaning g.D.Disk.does c.args.disk.now c.args.first.0 c.args.into.now r c.ask_links.new.disk c.args.into.now) (sym (exit _ c.from_residual-in_err-ask_links.ensures.1))
    (fetch-stopped c.args.disk.now c.ask_links.new.disk c.in_ok-size.size c.args.first.0 c.args.into.now (ap good_size s.1 ∙ s.0) z
    (record { found = c.new-findings.result; rows = [] }) (record { found = c.ask_links.new.findings; rows = [] }) (c.new-findings.ensures.stands (of (g.D.Disk.meaning c.args.disk.now)) [] z refl) c.in_err-ask_links.field-0.0
    (parts _ c.args.first.0 h.head.1 refl (h.told _ (subst (λ (k : ℕ). c.args.first.0 < k) (sym (c.new-findings.ensures.size ∙ z)) h.head.1)) (c.in_err-ask_links.ensures _ [] h.head.0)))

pub returns-in_err-read_bytes : goal.returns-in_err-read_bytes
returns-in_err-read_bytes g c =
    let s = c.in_ok-size.ensures in
    let h = c.in_ok-header.ensures in
    let z = s.1 ∙ c.size.ensures.is in
    subst (λ (r : Result Length VolumeFault). Fetches g.D.Disk.meaning g.D.Disk.does c.args.disk.now c.args.first.0 c.args.into.now r c.read_bytes.new.disk c.read_bytes.new.into) (sym (exit _ c.from_residual-in_err-read_bytes.ensures.1))
    (fetch-lost c.args.disk.now c.ask_links.new.disk c.in_ok-size.size c.args.first.0 c.args.into.now (ap good_size s.1 ∙ s.0) z
    (record { found = c.new-findings.result; rows = [] }) (record { found = c.ask_links.new.findings; rows = [] }) (c.new-findings.ensures.stands (of (g.D.Disk.meaning c.args.disk.now)) [] z refl)
    c.read_bytes.new.disk c.in_ok-header.header c.read_bytes.new.into (parts _ c.args.first.0 h.head.1 refl (h.told _ (subst (λ (k : ℕ). c.args.first.0 < k) (sym (c.new-findings.ensures.size ∙ z)) h.head.1)) (c.in_ok-ask_links.ensures _ [] h.head.0)) h.head.0 h.head.1 c.in_err-read_bytes.field-0.0 c.in_err-read_bytes.ensures)

pub returns : goal.returns
returns g c =
    let s = c.in_ok-size.ensures in
    let h = c.in_ok-header.ensures in
    let z = s.1 ∙ c.size.ensures.is in
    fetch-all c.args.disk.now c.ask_links.new.disk c.in_ok-size.size c.args.first.0 c.args.into.now (ap good_size s.1 ∙ s.0) z
    (record { found = c.new-findings.result; rows = [] }) (record { found = c.ask_links.new.findings; rows = [] }) (c.new-findings.ensures.stands (of (g.D.Disk.meaning c.args.disk.now)) [] z refl)
    c.read_bytes.new.disk c.in_ok-header.header c.read_bytes.new.into (parts _ c.args.first.0 h.head.1 refl (h.told _ (subst (λ (k : ℕ). c.args.first.0 < k) (sym (c.new-findings.ensures.size ∙ z)) h.head.1)) (c.in_ok-ask_links.ensures _ [] h.head.0)) h.head.0 h.head.1 c.in_ok-read_bytes.ensures
