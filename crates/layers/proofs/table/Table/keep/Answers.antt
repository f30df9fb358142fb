use Rattle.std.proofs.Common.{set, is_some, sym, refl, ap, ◌∙◌, subst, inl, length-set}
use Rattle.arrayvec.proofs.ArrayVecLemmas.{items-with_items}
use Rattle.disk.specs.Meaning.{Whole}
use Rattle.layers.specs.Rows.{Tidy, With}
use Rattle.layers.specs.declared.kept.Kept.{Kept}
use Rattle.layers.proofs.Rows.{tidy-push, with-push, at-none, tidy-put, with-put, at-position}
use Rattle.layers.proofs.table.Table.keep.Goals as goal

pub invariant_of-self-clause-tidy : goal.invariant_of-self-clause-tidy
invariant_of-self-clause-tidy c =
    let s = c.args.self.now.rows in
    let v : Kept = record { sector = c.args.n; bytes = c.args.bytes.now } in
    let full : Whole c.args.bytes.now = record { long = c.told-bytes; bytes = c.fits-bytes } in
    let e = sym c.position.ensures ∙ c.in-Some.is in
    rw (c.deref_mut.ensures.value, items-with_items s (set s.items c.in-Some.i v) (length-set s.items _ v)) (tidy-put s.items c.args.n c.in-Some.i v e refl full c.args.self.now.tidy)

pub invariant_of-self-in-None-2-clause-tidy : goal.invariant_of-self-in-None-2-clause-tidy
invariant_of-self-in-None-2-clause-tidy c =
    let full : Whole c.args.bytes.now = record { long = c.told-bytes; bytes = c.fits-bytes } in
    let e = sym c.position.ensures ∙ c.in-None-2.is in
    subst Tidy (sym c.push.ensures.items) (tidy-push c.args.self.now.rows.items c.args.n _ e refl full c.args.self.now.tidy)

pub returns-in-Some-clause-kept : goal.returns-in-Some-clause-kept
returns-in-Some-clause-kept c =
    let s = c.args.self.now.rows in
    let v : Kept = record { sector = c.args.n; bytes = c.args.bytes.now } in
    let e = sym c.position.ensures ∙ c.in-Some.is in
    rw (c.deref_mut.ensures.value, items-with_items s (set s.items c.in-Some.i v) (length-set s.items _ v)) (with-put s.items c.args.n c.in-Some.i v e refl)

pub returns-in-Some-clause-room : goal.returns-in-Some-clause-room
returns-in-Some-clause-room c =
    let v : Kept = record { sector = c.args.n; bytes = c.args.bytes.now } in
    inl (ap is_some (at-position c.args.self.now.rows.items c.args.n c.in-Some.i v (sym c.position.ensures ∙ c.in-Some.is)))

pub returns-in-None-clause-other : goal.returns-in-None-clause-other
returns-in-None-clause-other c = at-none c.args.self.now.rows.items c.args.n (sym c.position.ensures ∙ c.in-None.is)

pub returns-in-None-2-clause-kept : goal.returns-in-None-2-clause-kept
returns-in-None-2-clause-kept c =
    let e = sym c.position.ensures ∙ c.in-None-2.is in
    subst (With c.args.self.now.rows.items c.args.n c.args.bytes.now) (sym c.push.ensures.items) (with-push c.args.self.now.rows.items c.args.n _ e refl)
