use Rattle.std.proofs.Common.{Result, sym, ap, subst, arith}
use Rattle.numbers.specs.declared.sector.Sector.{Sector}
use Rattle.layout.specs.declared.table.Table.{Table}
use Rattle.catalog.specs.declared.fault.VolumeFault.{VolumeFault}
use Rattle.survey.specs.Fetches.{FindsPart}
use Rattle.survey.proofs.Tellings.{exit, got-shown}
use Rattle.survey.proofs.Reading.{part-first, near-found, near-none, tab-found, tab-none, far-found, far-none, finds-here, finds-no, finds-there, finds-none, finds-lost}
use Rattle.survey.proofs.read.find_part.Goals as goal

pub returns-then-i-eq0 : goal.returns-then-i-eq0
returns-then-i-eq0 g c = finds-here c.args.size c.args.header.now c.args.first.0 c.args.i _ c.args.first (λ w z s p l. part-first w c.args.first.0 c.args.header.now p c.args.i l c.if-i-eq0.true)

pub returns-in_err-part : goal.returns-in_err-part
returns-in_err-part g c =
    let h = c.args.header.now in
    subst (λ (r : Result Sector VolumeFault). FindsPart g.D.Disk.meaning g.D.Disk.does c.args.disk.now c.args.size h c.args.first.0 c.args.i r c.args.disk.now) (sym (exit _ c.from_residual.ensures.1))
    (finds-no c.args.size h c.args.first.0 c.args.i _ c.in_err-part.field-0.0
    (λ w z s p l. near-none w c.args.first.0 h p c.args.i l c.args.size _ z (omega arith) c.requires c.in_default.ensures c.in_err-part.ensures))

pub returns-in_default : goal.returns-in_default
returns-in_default g c =
    let h = c.args.header.now in
    finds-here c.args.size h c.args.first.0 c.args.i _ c.in_ok-part.part
    (λ w z s p l. near-found w c.args.first.0 h p c.args.i l c.args.size _ c.in_ok-part.part z (omega arith) c.requires c.in_default.ensures c.in_ok-part.ensures)

pub returns-in_err-table : goal.returns-in_err-table
returns-in_err-table g c =
    let h = c.args.header.now in
    let e = c.in-Some.ensures in
    subst (λ (r : Result Sector VolumeFault). FindsPart g.D.Disk.meaning g.D.Disk.does c.args.disk.now c.args.size h c.args.first.0 c.args.i r c.args.disk.now) (sym (exit _ c.from_residual-in_err-table.ensures.1))
    (finds-no c.args.size h c.args.first.0 c.args.i _ c.in_err-table.field-0.0
    (λ w z s p l. tab-none w c.args.first.0 h p c.args.i l c.in-Some.k c.in-Some.j e.0 c.requires e.1 e.2 c.args.size _ z c.in_err-table.ensures))

pub returns-in_err-get : goal.returns-in_err-get
returns-in_err-get g c =
    let h = c.args.header.now in
    let e = c.in-Some.ensures in
    subst (λ (r : Result Sector VolumeFault). FindsPart g.D.Disk.meaning g.D.Disk.does c.args.disk.now c.args.size h c.args.first.0 c.args.i r c.get.new.self) (sym (exit _ c.from_residual-in_err-get.ensures.1))
    (finds-lost c.args.size h c.args.first.0 c.args.i c.in_err-get.ensures.rule c.in_err-get.ensures.done
    (λ w z s p l. let t = tab-found w c.args.first.0 h p c.args.i l c.in-Some.k c.in-Some.j e.0 c.requires e.1 e.2 c.args.size _ c.in_ok-table.table z c.in_ok-table.ensures in omega (arith, t.1)))

pub returns-in_err-part-2 : goal.returns-in_err-part-2
returns-in_err-part-2 g c =
    let h = c.args.header.now in
    let e = c.in-Some.ensures in
    subst (λ (r : Result Sector VolumeFault). FindsPart g.D.Disk.meaning g.D.Disk.does c.args.disk.now c.args.size h c.args.first.0 c.args.i r c.get.new.self) (sym (exit _ c.from_residual-in_err-part-2.ensures.1))
    (finds-none c.args.size h c.args.first.0 c.args.i c.in_err-part-2.field-0.0 c.in_ok-get.ensures.rule c.in_ok-get.ensures.done
    (λ w z s p l.
    let t = tab-found w c.args.first.0 h p c.args.i l c.in-Some.k c.in-Some.j e.0 c.requires e.1 e.2 c.args.size _ c.in_ok-table.table z c.in_ok-table.ensures in
    far-none w c.args.first.0 h p c.args.i l c.in-Some.k c.in-Some.j e.0 c.requires e.1 e.2 c.args.size c.in_ok-table.table.0 c.get.new.into _ _ z t.0 (got-shown c.in_ok-get.ensures.rule s c.from.ensures) (ap (λ (y : Table). y.sectors) c.decode.ensures) c.in_err-part-2.ensures))

pub returns : goal.returns
returns g c =
    let h = c.args.header.now in
    let e = c.in-Some.ensures in
    finds-there c.args.size h c.args.first.0 c.args.i c.in_ok-part-2.part c.in_ok-get.ensures.rule c.in_ok-get.ensures.done
    (λ w z s p l.
    let t = tab-found w c.args.first.0 h p c.args.i l c.in-Some.k c.in-Some.j e.0 c.requires e.1 e.2 c.args.size _ c.in_ok-table.table z c.in_ok-table.ensures in
    far-found w c.args.first.0 h p c.args.i l c.in-Some.k c.in-Some.j e.0 c.requires e.1 e.2 c.args.size c.in_ok-table.table.0 c.get.new.into _ _ c.in_ok-part-2.part z t.0 (got-shown c.in_ok-get.ensures.rule s c.from.ensures) (ap (λ (y : Table). y.sectors) c.decode.ensures) c.in_ok-part-2.ensures)
