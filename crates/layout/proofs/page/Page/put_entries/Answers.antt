use Rattle.std.proofs.Common.{◌+◌, ◌*◌, length, sym, refl, ap, ◌∙◌, arith}
use Rattle.std.proofs.lemmas.List.{get_or_default}
use Rattle.layout.specs.Words.{written}
use Rattle.layout.specs.Entries.{entries_at, stored_entry_bytes}
use Rattle.layout.specs.declared.entry.StoredEntry.{StoredEntry}
use Rattle.layout.proofs.Writing.{written_none}
use Rattle.layout.proofs.Paging.{put-entry-more}
use Rattle.layout.proofs.page.Page.put_entries.Goals as goal

pub loop-i-init : goal.loop-i-init
loop-i-init c = (sym (written_none c.args.sector.now entries_at), refl)

pub loop-i-preserved : goal.loop-i-preserved
loop-i-preserved c =
    let es = c.deref-entry-items.result.now in
    put-entry-more c.args.sector.now c.loop-i.sector c.store.new.sector es c.loop-i.i _ (omega arith) (get_or_default es c.loop-i.i _ _ (omega arith)) (omega arith)
    (sym (ap (λ (s : StoredEntry). length (stored_entry_bytes s)) c.from.ensures) ∙ c.store.ensures.long)
    (c.store.ensures.after ∙ ap (λ (s : StoredEntry). written c.loop-i.sector (64 + 40 * c.loop-i.i) (stored_entry_bytes s)) c.from.ensures) c.loop-i.invariant
