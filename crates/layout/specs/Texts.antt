-- What a refusal prints.
use Rattle.std.specs.Prelude.{ℕ, List, codes}
use Rattle.layout.specs.declared.header.HeaderFault.{HeaderFault}
use Rattle.layout.specs.declared.header.HeaderFault.TheVariants as header
use Rattle.layout.specs.declared.entry.PageFault.{PageFault}
use Rattle.layout.specs.declared.entry.PageFault.TheVariants as page

abbrev pub header_fault_text : HeaderFault → List ℕ
header_fault_text header.Mark = codes "not the mark of a file's first sector"
header_fault_text header.End = codes "the last sector and the bytes used there are no end of a file"
header_fault_text header.Link = codes "an address is not as due"

abbrev pub page_fault_text : PageFault → List ℕ
page_fault_text page.Mark = codes "not the mark and the zeros of a directory page"
page_fault_text page.RootCount = codes "a root holds 0 to 24 entries"
page_fault_text page.ParentCount = codes "a root with children holds 1 to 24 entries"
page_fault_text page.OtherCount = codes "a page that is not the root holds 12 to 24 entries"
page_fault_text page.BadName = codes "an entry's name is not a good one"
page_fault_text page.BadLink = codes "an address is not as due"
