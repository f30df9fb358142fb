use Rattle.std.proofs.Common.{refl, ap, ◌∙◌, arith}
use Rattle.numbers.specs.Names.{is_name_field}
use Rattle.survey.specs.Asks.{told}
use Rattle.survey.proofs.Tellings.{exit, s_said}
use Rattle.survey.proofs.Pages.{entry-no-name, entry-no-file, entry-stopped, entry-all, in-field}
use Rattle.survey.proofs.page.ask_entry.Goals as goal

pub list-requires : goal.list-requires
list-requires g c =
    let n = c.in_ok-name.ensures.name in
    let m = c.in_ok-first.ensures.more in
    let r = (c.in_ok-length.ensures.told c.args.rows.now).room in
    let f = c.rise.new.self.few in
    record { room = omega (arith, r, m.0, m.1, f); name = ap is_name_field n.0 ∙ n.1; fits = c.in_ok-length.ensures.length.1 }

pub returns-in_err-name : goal.returns-in_err-name
returns-in_err-name g c =
    s_said (λ w s. refl) (ap told (exit _ c.from_residual.ensures.1)) (entry-no-name _ c.args.page.0 c.args.entry.now.name.bytes c.args.entry.now.file.0 (c.in_err-name.ensures.told _))

pub returns-in_err-first : goal.returns-in_err-first
returns-in_err-first g c =
    s_said (λ w s. refl) (ap told (exit _ c.from_residual-in_err-first.ensures.1))
    (entry-no-file _ c.args.page.0 c.args.entry.now.name.bytes c.args.entry.now.file.0 (c.in_ok-name.ensures.told _) (c.in_err-first.ensures.told _))

pub returns-in_err-length : goal.returns-in_err-length
returns-in_err-length g c =
    s_said (λ w s. refl) (ap told (exit _ c.from_residual-in_err-length.ensures.1))
    (entry-stopped c.args.page.0 c.args.entry.now.name.bytes c.args.entry.now.file.0 c.in_ok-first.first.0 (c.in_ok-name.ensures.told _) (c.in_ok-first.ensures.told _) c.in_ok-first.ensures.led.1 (c.in_err-length.ensures.told _))

pub returns : goal.returns
returns g c =
    let l = c.in_ok-length.ensures.length in
    entry-all c.args.page.0 c.args.entry.now.name.bytes c.args.entry.now.file.0 c.in_ok-first.first.0 c.in_ok-length.length.0 (c.in_ok-name.ensures.told _) (c.in_ok-first.ensures.told _) c.in_ok-first.ensures.led.1 c.in_ok-first.ensures.more
    (c.in_ok-length.ensures.told _) l.2 l.0 (in-field c.in_ok-name.ensures.name.0 c.list.ensures.told) c.list.ensures.counted c.list.ensures.same
