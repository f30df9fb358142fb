use Rattle.std.proofs.Common.{arith}
use Rattle.layout.specs.Words.{blank}
use Rattle.layout.specs.Entries.{all_entry_bytes}
use Rattle.layout.proofs.Paging.{page-written}
use Rattle.layout.proofs.page.Page.encode.Goals as goal

pub returns : goal.returns
unfolding blank
returns c =
    rw (← c.self.view_is)
    (omega arith, page-written c.store.new.sector c.store-2.new.sector c.store-3.new.sector c.put_entries.new.sector _ _ (all_entry_bytes c.self.inside.entries) c.store.ensures.after (cc) (cc) (rw (← c.self.view_is) at c.put_entries.ensures))
