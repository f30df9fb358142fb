-- Small disks on which what the calls owe is met: each of these facts is met at least once.
use Rattle.std.specs.Prelude.{ℕ, true, false, List, [], ◌∷◌, replicate, Some, None, Option}
use Rattle.numbers.specs.Names.{Key}
use Rattle.numbers.specs.Lengths.{header_size}
use Rattle.layout.specs.Words.{blank as zeros, written}
use Rattle.layout.specs.Headers.{header_bytes}
use Rattle.layout.specs.Pages.{page_bytes}
use Rattle.tree.specs.Tree.{Entry, item, Page, page}
use Rattle.disk.specs.Meaning.{Contents, Meaning}
use Rattle.catalog.specs.Catalogs.{Laid, Extent, Catalog, range, bytes_of}
use Rattle.catalog.specs.Lays.{root_sector}
use Rattle.catalog.specs.Written.{page_data, header_of}
use Rattle.promise.specs.Table.{Sort, Anonymous, Registered, Slot, Names, Done, Named, no_slots}
use Rattle.promise.specs.Ledger.{Written, Ledger, blank, closing}
use Rattle.promise.specs.Promise.{View}
use Rattle.promise.specs.Calls.{Did, Starts}
use Rattle.recovery.specs.Picks.{with_sector}
use Rattle.recovery.specs.Harmless.{Writing}
use Rattle.recovery.specs.Turning.{empty_root, empty_catalog, FormatOwes}
use Rattle.recovery.specs.Owed.{DeleteOwes, RegisterOwes, CloseOwes}
use Rattle.recovery.specs.Kept.{Kept, Runs}

-- eleven sectors that show s, all settled
abbrev pub eleven : (ℕ → Contents) → Meaning
eleven s = record { size = 11; live = true; calm = true; shown = s; may = λ k. s k ∷ [] }

-- zeros, but for a root page and a first sector in sector 2
abbrev pub holding : Contents → Contents → ℕ → Contents
holding root head = with_sector (with_sector (λ (k : ℕ). zeros) root_sector root) 2 head

-- the name "A", and the directory with it alone
abbrev pub name_a : Key
name_a = 65 ∷ []

abbrev pub page_a : Page Key (Laid 0)
page_a = page tt (item (name_a, 2) tt ∷ [])

abbrev pub root_a : Contents
root_a = page_bytes (page_data 0 page_a)

abbrev pub catalog_a : Extent → Catalog
catalog_a x = record { over = 0; root = (root_sector, page_a); files = x ∷ [] }

-- a file of n bytes in sector 2, and one of 673 bytes, of which the last lies in sector 3
abbrev pub short : ℕ → Extent
short n = record { long = n; parts = 2 ∷ []; tabs = [] }

abbrev pub longer : Extent
longer = record { long = 673; parts = 2 ∷ 3 ∷ []; tabs = [] }

-- the first sector of a file named "A": its header and its first bytes
abbrev pub head_a : Extent → List ℕ → Contents
head_a x bytes = written (written zeros 0 (header_bytes (header_of name_a x))) header_size bytes

-- a ledger that knows one file
abbrev pub knowing : List (Entry Key) → Written → List (Option Slot) → Ledger
knowing names w slots = record { names = names; files = w ∷ []; slots = slots; broken = None; wiped = false }

abbrev pub named_a : List (Entry Key)
named_a = (name_a, 0) ∷ []

abbrev pub slot_a : Sort → List (Option Slot)
slot_a sort = Some (record { file = 0; sort = sort; name = name_a; handles = 1 }) ∷ replicate 7 None

-- its one byte is 7: it was closed so; or it was closed empty, and is open
abbrev pub seven_closed : Written
seven_closed = record { bytes = 7 ∷ []; closed = 1; possible = (7 ∷ []) ∷ [] }

abbrev pub seven_open : Written
seven_open = record { bytes = 7 ∷ []; closed = 0; possible = [] }

-- the file of 673 bytes on a disk, closed
abbrev pub longer_shown : ℕ → Contents
longer_shown = holding root_a (head_a longer [])

abbrev pub longer_closed : Written
longer_closed = closing (record { bytes = bytes_of longer_shown longer; closed = 0; possible = [] })

-- a store on a disk that was just formatted
abbrev pub fresh : View
fresh = record { ready = true; slots = replicate 8 None; free = range 2 9; disk = eleven (holding empty_root zeros) }

pub record Cards : Type 0 where
  -- the file of one byte loses its name
  pub delete : DeleteOwes (knowing named_a seven_closed no_slots) name_a (eleven (holding root_a (head_a (short 1) (7 ∷ [])))) (catalog_a (short 1)) empty_catalog empty_root
  -- it gets one
  pub register : RegisterOwes (knowing [] seven_open (slot_a Anonymous)) 0 (eleven (holding empty_root (head_a (short 1) (7 ∷ [])))) empty_catalog (catalog_a (short 1)) (short 1) 2 root_a
  -- an empty file becomes that of one byte
  pub close : CloseOwes (knowing named_a seven_open (slot_a Registered)) 0 0 (eleven (holding root_a (head_a (short 0) []))) (catalog_a (short 0)) (short 1) 2 (head_a (short 1) (7 ∷ []))
  -- a disk with a file is formatted
  pub format : FormatOwes (knowing named_a seven_closed no_slots) (eleven (holding root_a (head_a (short 1) (7 ∷ [])))) empty_root
  -- the last byte of the longer file is written
  pub write : Writing (knowing named_a longer_closed (slot_a Registered)) (record { slot = 0; place = 672; end = false }) (7 ∷ []) 11 longer_shown (catalog_a longer) (name_a, 0) longer 1 (written zeros 0 (7 ∷ []))
  -- a run begins with a Format, goes on with a call, here a List into no records, and a Start follows
  pub run : Runs blank fresh
  pub call : Did Kept fresh (Names []) (Named 0 []) fresh
  pub start : Starts Kept fresh Done fresh
