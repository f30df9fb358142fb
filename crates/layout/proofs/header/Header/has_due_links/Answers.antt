use Rattle.std.proofs.Common.{◌≡◌, true, false, eqb, length, get_or, sym, refl, ap, ◌∙◌, arith}
use Rattle.layout.proofs.Heading.{links-asked}
use Rattle.layout.proofs.header.Header.has_due_links.Goals.{then-eq, else-eq}
use Rattle.layout.proofs.header.Header.has_due_links.Goals as goal

pub returns-then-are_as_due : goal.returns-then-are_as_due
returns-then-are_as_due c =
    let h = c.args.self.now in
    let l : length h.sectors ≡ 64 = omega arith in
    let same : c.eq.result ≡ eqb (get_or h.sectors 0 (record { 0 = 0 })).0 c.from.result.0 = c.eq.ensures in
    elim c.if-eq.branch [
      | then-eq w ↦
          sym
          (links-asked c.args.own.0 c.args.size c.last_sector-last.result c.tables.result h (record { 0 = 0 }) true true c.are_as_due-then-are_as_due.result l
          (sym w.if-eq.true ∙ same ∙ ap (eqb (get_or h.sectors 0 (record { 0 = 0 })).0) c.from.ensures) c.last_sector-last.ensures c.tables.ensures
          (sym c.if-are_as_due.true ∙ w.value-is ∙ w.are_as_due.ensures 1) (c.are_as_due-then-are_as_due.ensures 0))
      | else-eq w ↦ cc
    ]

pub returns-else-are_as_due : goal.returns-else-are_as_due
returns-else-are_as_due c =
    let h = c.args.self.now in
    let l : length h.sectors ≡ 64 = omega arith in
    let same : c.eq.result ≡ eqb (get_or h.sectors 0 (record { 0 = 0 })).0 c.from.result.0 = c.eq.ensures in
    elim c.if-eq.branch [
      | then-eq w ↦
          c.if-are_as_due.false
          ∙ sym (links-asked c.args.own.0 c.args.size c.last_sector-last.result _ h (record { 0 = 0 }) true false _ l
          (sym w.if-eq.true ∙ same ∙ ap (eqb (get_or h.sectors 0 (record { 0 = 0 })).0) c.from.ensures) c.last_sector-last.ensures refl
          (sym c.if-are_as_due.false ∙ w.value-is ∙ w.are_as_due.ensures 1) refl)
      | else-eq w ↦
          c.if-are_as_due.false
          ∙ sym (links-asked c.args.own.0 c.args.size c.last_sector-last.result _ h (record { 0 = 0 }) false _ _ l
          (sym w.if-eq.false ∙ same ∙ ap (eqb (get_or h.sectors 0 (record { 0 = 0 })).0) c.from.ensures) c.last_sector-last.ensures refl refl refl)
    ]
