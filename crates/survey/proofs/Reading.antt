-- The bytes of a file that is laid.
use Rattle.std.proofs.Common.{◌≡◌, ℕ, zero, suc, ◌+◌, ◌*◌, ◌/◌, ◌%◌, ◌<◌, ◌≤◌, true, false, leb, ◌⊎◌, inl, inr, List, [], ◌∷◌, ◌++◌, length, get_or, take, drop, Some, None, Ok, Err, Option, Result, sym, refl, ap, ◌∙◌, subst, arith}
use Rattle.std.proofs.lemmas.Bool.{and_from, and_parts, both_ways, cases_lt, le-leb, leb-true}
use Rattle.std.proofs.lemmas.List.{ext_get_or, get_or-take, get_or-drop, length-take-le, length-drop, length-map}
use Rattle.disk.specs.declared.fault.DiskFault.{DiskFault}
use Rattle.disk.specs.Meaning.{Contents, Meaning, In}
use Rattle.disk.specs.Rules.{Answer, Request, Gets}
use Rattle.disk.specs.Rules.Request.{getting}
use Rattle.numbers.specs.declared.sector.Address.{Address}
use Rattle.numbers.specs.declared.sector.Sector.{Sector}
use Rattle.numbers.specs.Lengths.{near_sectors, table_sectors, most_tables, header_size, sector_size, last_of_longest, last_sector, tables, place}
use Rattle.numbers.specs.Sectors.{address, sector_at}
use Rattle.numbers.proofs.Linking.{led-to}
use Rattle.numbers.proofs.Sizes.{lengths}
use Rattle.layout.specs.declared.header.Header.{Header}
use Rattle.layout.specs.Words.{word_size, word, written, addresses_in}
use Rattle.layout.specs.Tables.{in_table, table_place}
use Rattle.catalog.specs.declared.fault.LayoutFault.{LayoutFault}
use Rattle.catalog.specs.declared.fault.VolumeFault.{VolumeFault}
use Rattle.catalog.specs.declared.fault.VolumeFault.TheVariants.{Disk, Layout}
use Rattle.catalog.specs.Catalogs.{Extent, byte_at, bytes_of, overlaid, range}
use Rattle.catalog.specs.Questions.{extent}
use Rattle.catalog.proofs.Counts.{range_at, length-range}
use Rattle.catalog.proofs.File.{tables-over}
use Rattle.survey.specs.Reads.{Reads, ReadOnly}
use Rattle.survey.specs.Reads.Reads.{none, more}
use Rattle.survey.specs.Asks.{World, IsShown}
use Rattle.survey.specs.Fetches.{Held, PartIs, FindsPart, Fills}
use Rattle.survey.proofs.Files.{near-word, table-word, length-word, address-at}
use Rattle.survey.proofs.Tellings.{reads-then, read-same, read-then, read-got, got-shown, shown-then, leaves-then, faults, gone-inside}

-- A BUFFER with the first bytes of a list laid over it, and then the next ones
lay-front : (front t : List ℕ) → length front ≤ length t → front ++ drop (length front) t ≡ overlaid front t
lay-front [] t h = refl
lay-front (x ∷ xs) [] h = absurd (omega arith)
lay-front (x ∷ xs) (y ∷ ys) h = ap (λ (l : List ℕ). x ∷ l) (lay-front xs ys (omega arith))

pub chunk : (n m : ℕ) (b t : List ℕ) → n + m ≤ length b → n + m ≤ length t → written (overlaid (take n b) t) n (take m (drop n b)) ≡ overlaid (take (n + m) b) t
chunk zero m b t h l =
    let e : length (take m b) ≡ m = length-take-le m b (omega arith) in
    let z : 0 + length (take m b) ≡ length (take m b) = omega arith in
    let y : 0 + m ≡ m = omega arith in
    ap (λ (k : ℕ). take m b ++ drop k t) z ∙ lay-front (take m b) t (omega arith) ∙ ap (λ (k : ℕ). overlaid (take k b) t) (sym y)
chunk (suc n) m [] t h l = absurd (omega arith)
chunk (suc n) m (x ∷ xs) [] h l = absurd (omega arith)
chunk (suc n) m (x ∷ xs) (y ∷ ys) h l =
    let i = chunk n m xs ys (omega arith) (omega arith) in
    let c = overlaid (take n xs) ys in
    let p = take m (drop n xs) in
    let e : suc n + length p ≡ suc (n + length p) = omega arith in
    let f : suc (n + m) ≡ suc n + m = omega arith in
    ap (λ (k : ℕ). x ∷ (take n c ++ (p ++ drop k (x ∷ c)))) e ∙ ap (λ (l : List ℕ). x ∷ l) i ∙ ap (λ (k : ℕ). overlaid (take k (x ∷ xs)) (y ∷ ys)) f

-- all that the buffer takes
pub cover : (k : ℕ) (b t : List ℕ) → (length t ≤ k) ⊎ (length b ≤ k) → overlaid (take k b) t ≡ overlaid b t
cover zero [] t h = refl
cover zero (x ∷ xs) [] h = refl
cover zero (x ∷ xs) (y ∷ ys) (inl h) = absurd (omega arith)
cover zero (x ∷ xs) (y ∷ ys) (inr h) = absurd (omega arith)
cover (suc k) [] t h = refl
cover (suc k) (x ∷ xs) [] h = refl
cover (suc k) (x ∷ xs) (y ∷ ys) (inl h) = ap (λ (l : List ℕ). x ∷ l) (cover k xs ys (inl (omega arith)))
cover (suc k) (x ∷ xs) (y ∷ ys) (inr h) = ap (λ (l : List ℕ). x ∷ l) (cover k xs ys (inr (omega arith)))

-- THE BYTES of a file
pub bytes_long : (shown : ℕ → Contents) (x : Extent) → length (bytes_of shown x) ≡ x.long
unfolding bytes_of
bytes_long shown x = length-map (range 0 x.long) (byte_at shown x) ∙ length-range 0 x.long

byte_is : (shown : ℕ → Contents) (x : Extent) (p : ℕ) → p < x.long → get_or (bytes_of shown x) p 0 ≡ byte_at shown x p
unfolding bytes_of
byte_is shown x p h = let z : 0 + p ≡ p = omega arith in range_at (byte_at shown x) 0 x.long p 0 h ∙ ap (byte_at shown x) z

-- those of one sector from an offset on
pub piece : (shown : ℕ → Contents) (x : Extent) (c : Contents) (n m i o : ℕ) → n + m ≤ x.long → i ≡ (place n).0 → o ≡ (place n).1 → o + m ≤ sector_size → length c ≡ sector_size → c ≡ shown (get_or x.parts i 0) →
    take m (drop o c) ≡ take m (drop n (bytes_of shown x))
piece shown x c n m i o h e f l s q =
    let long = bytes_long shown x in
    let lc : length (take m (drop o c)) ≡ m = length-take-le m (drop o c) (omega (arith, length-drop o c)) in
    let lb : length (take m (drop n (bytes_of shown x))) ≡ m = length-take-le m (drop n (bytes_of shown x)) (omega (arith, length-drop n (bytes_of shown x))) in
    ext_get_or 0 _ _ (lc ∙ sym lb)
    (λ j g.
    let jm : j < m = omega arith in
    let pi : (n + j + header_size) / sector_size ≡ i = omega arith in
    let po : (n + j + header_size) % sector_size ≡ o + j = omega arith in
    get_or-take m (drop o c) j 0 jm ∙ get_or-drop o c j 0 ∙ ap (λ (y : Contents). get_or y (o + j) 0) q
    ∙ sym (get_or-take m (drop n (bytes_of shown x)) j 0 jm ∙ get_or-drop n (bytes_of shown x) j 0 ∙ byte_is shown x (n + j) (omega arith)
    ∙ ap (λ (z : ℕ). get_or (shown (get_or x.parts z 0)) ((n + j + header_size) % sector_size) 0) pi ∙ ap (λ (z : ℕ). get_or (shown (get_or x.parts i 0)) z 0) po))

-- PARTS of a file that is held
in-at : (l : List ℕ) (i : ℕ) → i < length l → In (get_or l i 0) l
in-at [] i h = absurd (omega arith)
in-at (x ∷ xs) zero h = inl refl
in-at (x ∷ xs) (suc i) h = inr (in-at xs i (omega arith))

in-rest : (l : List ℕ) (i : ℕ) → 1 ≤ i → i < length l → In (get_or l i 0) (drop 1 l)
in-rest [] i k h = absurd (omega arith)
in-rest (x ∷ xs) zero k h = absurd (omega arith)
in-rest (x ∷ xs) (suc i) k h = in-at xs i (omega arith)

module _ (w : World) (first : ℕ) (h : Header) (p : Held w first h) where
  x : Extent
  x = extent w.size w.shown first

  part-led : (i : ℕ) → 1 ≤ i → i < length x.parts → sector_at w.size (address (get_or x.parts i 0)) ≡ Some (record { 0 = get_or x.parts i 0 })
  unfolding x
  part-led i k l = let q = p.inside _ (inl (in-rest _ i k l)) in led-to w.size (record { 0 = get_or (extent w.size w.shown first).parts i 0 }) q.0 q.1

  tab-led : (k : ℕ) → k < length x.tabs → sector_at w.size (address (get_or x.tabs k 0)) ≡ Some (record { 0 = get_or x.tabs k 0 })
  unfolding x
  tab-led k l = let q = p.inside _ (inr (in-at _ k l)) in led-to w.size (record { 0 = get_or (extent w.size w.shown first).tabs k 0 }) q.0 q.1

  long-is : h.length.0 ≡ x.long
  unfolding x extent
  long-is = (length-word _ h p.header).0

  pub long-held : h.length.0 ≡ (extent w.size w.shown first).long
  unfolding x
  long-held = long-is

  parts-are : length x.parts ≡ 1 + last_sector h.length.0
  unfolding x
  parts-are = p.file.reaches.parts ∙ ap (λ (l : ℕ). 1 + last_sector l) (sym long-is)

  tabs-are : length x.tabs ≡ tables (last_sector h.length.0)
  unfolding x
  tabs-are = p.file.reaches.tabs ∙ ap (λ (l : ℕ). tables (last_sector l)) (sym long-is)

-- an address of a part that leads: the answer is that part
led-is : (size a n size' : ℕ) (s : Sector) → size ≡ size' → a ≡ address n → sector_at size' (address n) ≡ Some (record { 0 = n }) → sector_at size a ≡ Some s → s.0 ≡ n
led-is size a n size' s e f g l =
    let q : Some s ≡ Some (record { 0 = n }) = sym l ∙ ap (λ (z : ℕ). sector_at z a) e ∙ ap (sector_at size') f ∙ g in
    let r : s ≡ record { 0 = n } = cc in
    ap (λ (y : Sector). y.0) r

led-not : (size a n size' : ℕ) → size ≡ size' → a ≡ address n → sector_at size' (address n) ≡ Some (record { 0 = n }) → sector_at size a ≡ None → ⊥
led-not size a n size' e f g l =
    let q : ◌≡◌ {A = Option Sector} None (Some (record { 0 = n })) = sym l ∙ ap (λ (z : ℕ). sector_at z a) e ∙ ap (sector_at size') f ∙ g in
    absurd (differ (record { 0 = n }) q)
  where
    differ : (y : Sector) → None ≡ Some y → ⊥
    differ y q = cc

near-by : (i : ℕ) → i ≤ last_of_longest → in_table i ≡ false → i < near_sectors
near-by i h e = go (cases_lt i near_sectors) where
  go : (i < near_sectors) ⊎ (near_sectors ≤ i) → i < near_sectors
  go (inl l) = l
  go (inr l) = absurd (both_ways (in_table i) e (and_from _ _ (le-leb near_sectors i l) (le-leb i last_of_longest h)))

table-by : (i : ℕ) → in_table i ≡ true → near_sectors ≤ i
table-by i e = leb-true near_sectors i (and_parts (leb near_sectors i) _ e).0

module _ (w : World) (first : ℕ) (h : Header) (p : Held w first h) (i : ℕ) (few : i ≤ last_sector h.length.0) where
  pub part-first : i ≡ 0 → first ≡ get_or (extent w.size w.shown first).parts i 0
  part-first e = sym p.file.reaches.first ∙ ap (λ (z : ℕ). get_or (extent w.size w.shown first).parts z 0) (sym e)

  in-parts : i < length (extent w.size w.shown first).parts
  unfolding x
  in-parts = let n = parts-are w first h p in omega arith

  near-address : (d : Address) → i < near_sectors → (get_or h.sectors i d).0 ≡ address (get_or (extent w.size w.shown first).parts i 0)
  near-address d l = near-word (w.shown first) h p.header i d l ∙ p.file.reaches.near i l

  pub near-found : (size : ℕ) (d : Address) (s : Sector) → size ≡ w.size → 1 ≤ i → i ≤ last_of_longest → in_table i ≡ false → sector_at size (get_or h.sectors i d).0 ≡ Some s → s.0 ≡ get_or (extent w.size w.shown first).parts i 0
  unfolding x
  near-found size d s e k m t l = led-is size _ _ w.size s e (near-address d (near-by i m t)) (part-led w first h p i k in-parts) l

  pub near-none : (size : ℕ) (d : Address) → size ≡ w.size → 1 ≤ i → i ≤ last_of_longest → in_table i ≡ false → sector_at size (get_or h.sectors i d).0 ≡ None → ⊥
  unfolding x
  near-none size d e k m t l = led-not size _ _ w.size e (near-address d (near-by i m t)) (part-led w first h p i k in-parts) l

  -- through its table
  module _ (k j : ℕ) (far : in_table i ≡ true) (most : i ≤ last_of_longest) (kk : k ≡ (table_place i).0) (jj : j ≡ (table_place i).1) where
    place-is : (near_sectors + table_sectors * k + j ≡ i) × (j < table_sectors) × (k < most_tables)
    place-is = let l = table-by i far in (omega arith, omega arith, omega arith)

    in-tabs : k < length (extent w.size w.shown first).tabs
    unfolding x
    in-tabs =
        let n = tabs-are w first h p in
        let q = place-is in
        let o = tables-over (last_sector h.length.0) k (omega (arith, q.0)) in
        omega arith

    tab-address : (d : Address) → (get_or h.tables k d).0 ≡ address (get_or (extent w.size w.shown first).tabs k 0)
    tab-address d = table-word (w.shown first) h p.header k d place-is.2 ∙ p.file.reaches.extensions k place-is.2

    pub tab-found : (size : ℕ) (d : Address) (s : Sector) → size ≡ w.size → sector_at size (get_or h.tables k d).0 ≡ Some s → (s.0 ≡ get_or (extent w.size w.shown first).tabs k 0) × (s.0 < w.size)
    unfolding x
    tab-found size d s e l =
        let q = led-is size _ _ w.size s e (tab-address d) (tab-led w first h p k in-tabs) l in
        (q, subst (λ (z : ℕ). z < w.size) (sym q) (p.inside _ (inr (in-at _ k in-tabs))).1)

    pub tab-none : (size : ℕ) (d : Address) → size ≡ w.size → sector_at size (get_or h.tables k d).0 ≡ None → ⊥
    unfolding x
    tab-none size d e l = led-not size _ _ w.size e (tab-address d) (tab-led w first h p k in-tabs) l

    far-address : (t : ℕ) (c : Contents) (list : List Address) (d : Address) → t ≡ get_or (extent w.size w.shown first).tabs k 0 → c ≡ w.shown t → list ≡ addresses_in c 0 table_sectors → (get_or list j d).0 ≡ address (get_or (extent w.size w.shown first).parts i 0)
    far-address t c list d e f g =
        let q = place-is in
        let z : 0 + word_size * j ≡ word_size * j = omega arith in
        ap (λ (y : List Address). (get_or y j d).0) g ∙ address-at c 0 table_sectors j d q.1 ∙ ap (word c) z ∙ ap (λ (y : Contents). word y (word_size * j)) (f ∙ ap w.shown e)
        ∙ p.file.reaches.far k j q.1 (subst (λ (y : ℕ). y < length (extent w.size w.shown first).parts) (sym q.0) in-parts) ∙ ap (λ (y : ℕ). address (get_or (extent w.size w.shown first).parts y 0)) q.0

    pub far-found : (size t : ℕ) (c : Contents) (list : List Address) (d : Address) (s : Sector) → size ≡ w.size → t ≡ get_or (extent w.size w.shown first).tabs k 0 → c ≡ w.shown t → list ≡ addresses_in c 0 table_sectors → sector_at size (get_or list j d).0 ≡ Some s → s.0 ≡ get_or (extent w.size w.shown first).parts i 0
    unfolding x
    far-found size t c list d s z e f g l = let q = table-by i far in led-is size _ _ w.size s z (far-address t c list d e f g) (part-led w first h p i (omega arith) in-parts) l

    pub far-none : (size t : ℕ) (c : Contents) (list : List Address) (d : Address) → size ≡ w.size → t ≡ get_or (extent w.size w.shown first).tabs k 0 → c ≡ w.shown t → list ≡ addresses_in c 0 table_sectors → sector_at size (get_or list j d).0 ≡ None → ⊥
    unfolding x
    far-none size t c list d z e f g l = let q = table-by i far in led-not size _ _ w.size z (far-address t c list d e f g) (part-led w first h p i (omega arith) in-parts) l

-- THE ANSWERS of a look for a part
abbrev pub Part : Meaning → ℕ → Header → ℕ → ℕ → Result Sector VolumeFault → Type 0
Part m size h first i r = (w : World) → size ≡ w.size → IsShown m w → Held w first h → i ≤ last_sector h.length.0 → PartIs w first i r

module _ {D : Type 0} {meaning : D → Meaning} {does : D → Request → Answer → D → Type 0} (size : ℕ) (h : Header) (first i : ℕ) where
  pub finds-here : (d : D) (s : Sector) → Part (meaning d) size h first i (Ok s) → FindsPart meaning does d size h first i (Ok s) d
  finds-here d s p = record { reads = none; read = read-same (meaning d); leaves = λ l. l; part = p }

  pub finds-no : (d : D) (e : LayoutFault) → Part (meaning d) size h first i (Err (Layout e)) → FindsPart meaning does d size h first i (Err (Layout e)) d
  finds-no d e p = record { reads = none; read = read-same (meaning d); leaves = λ l. l; part = p }

  pub finds-there : {d d1 : D} {n : ℕ} {old new : Contents} (s : Sector) → Gets (meaning d) n old (Ok tt) (meaning d1) new → does d (getting n) (Ok tt) d1 → Part (meaning d) size h first i (Ok s) → FindsPart meaning does d size h first i (Ok s) d1
  finds-there s g a p = record { reads = more none a; read = read-got g; leaves = λ l. g.answer.live; part = p }

  pub finds-none : {d d1 : D} {n : ℕ} {old new : Contents} (e : LayoutFault) → Gets (meaning d) n old (Ok tt) (meaning d1) new → does d (getting n) (Ok tt) d1 → Part (meaning d) size h first i (Err (Layout e)) → FindsPart meaning does d size h first i (Err (Layout e)) d1
  finds-none e g a p = record { reads = more none a; read = read-got g; leaves = λ l. g.answer.live; part = p }

  pub finds-lost : {d d1 : D} {n : ℕ} {old new : Contents} {f : DiskFault} → Gets (meaning d) n old (Err f) (meaning d1) new → does d (getting n) (Err f) d1 →
      ((w : World) → size ≡ w.size → IsShown (meaning d) w → Held w first h → i ≤ last_sector h.length.0 → n < w.size) → FindsPart meaning does d size h first i (Err (Disk f)) d1
  finds-lost {d} {d1} {n} {f = f} g a p =
      record { reads = more none a; read = read-got g; leaves = faults g a; part = λ w z s y l. let k = p w z s y l in let v = s.size in gone-inside f.cause (meaning d) (meaning d1) n f g.answer.why (omega arith) }

-- every part is on the disk
part-inside : (w : World) (first : ℕ) (h : Header) → Held w first h → (i : ℕ) → i < length (extent w.size w.shown first).parts → get_or (extent w.size w.shown first).parts i 0 < w.size
part-inside w first h p zero l = subst (λ (z : ℕ). z < w.size) (sym p.file.reaches.first) p.first_in
part-inside w first h p (suc i) l = (p.inside _ (inl (in-rest _ (suc i) (omega arith) l))).1

-- so far: the first `done` bytes stand in the buffer
pub record Filling {D : Type 0} (meaning : D → Meaning) (does : D → Request → Answer → D → Type 0) (d : D) (size : ℕ) (h : Header) (first : ℕ) (old : List ℕ) (done : ℕ) (d1 : D) (now : List ℕ) : Type 0 where
  pub reads : Reads does d d1
  pub read : ReadOnly (meaning d) (meaning d1)
  pub live : (meaning d).live ≡ true → (meaning d1).live ≡ true
  pub filled : (w : World) → size ≡ w.size → IsShown (meaning d) w → Held w first h → now ≡ overlaid (take done (bytes_of w.shown (extent w.size w.shown first))) old

few-at : (done long i : ℕ) → done < long → i ≡ (place done).0 → i ≤ last_sector long
few-at done long i h e = let q = (lengths.within done long h).0 in omega arith

module _ {D : Type 0} {meaning : D → Meaning} {does : D → Request → Answer → D → Type 0} where
  pub filling-start : (d : D) (size : ℕ) (h : Header) (first : ℕ) (old : List ℕ) → Filling meaning does d size h first old 0 d old
  filling-start d size h first old = record { reads = none; read = read-same (meaning d); live = λ l. l; filled = λ w z s p. refl }

  module _ {d d1 : D} {size first done : ℕ} {h : Header} {old now : List ℕ} (f : Filling meaning does d size h first old done d1 now) where
    pub filling-all : (length old ≤ done) ⊎ (h.length.0 ≤ done) → Fills meaning does d size h first old (Ok tt) d1 now
    filling-all e =
        record {
          reads = f.reads;
          read = f.read;
          leaves = f.live;
          filled = λ w z s p. f.filled w z s p ∙ cover done (bytes_of w.shown (extent w.size w.shown first)) old (over w p e);
        }
      where
        over : (w : World) → Held w first h → (length old ≤ done) ⊎ (h.length.0 ≤ done) → (length old ≤ done) ⊎ (length (bytes_of w.shown (extent w.size w.shown first)) ≤ done)
        over w p (inl l) = inl l
        over w p (inr l) = let b = bytes_long w.shown (extent w.size w.shown first) in let i = long-held w first h p in inr (omega arith)

    pub filling-no-part : {d2 : D} {i : ℕ} (v : VolumeFault) → done < h.length.0 → i ≡ (place done).0 → FindsPart meaning does d1 size h first i (Err v) d2 → Fills meaning does d size h first old (Err v) d2 now
    filling-no-part (Layout e) l k q =
        record {
          reads = reads-then f.reads q.reads;
          read = read-then f.read q.read;
          leaves = λ a. q.leaves (f.live a);
          filled = λ w z s p. q.part w z (shown-then f.read s) p (few-at done h.length.0 _ l k);
        }
    filling-no-part {d2} (Disk x) l k q =
        record {
          reads = reads-then f.reads q.reads;
          read = read-then f.read q.read;
          leaves = leaves-then meaning does d2 (Err (Disk x)) f.reads f.read f.live q.leaves;
          filled = λ w z s p. (q.part w z (shown-then f.read s) p (few-at done h.length.0 _ l k), (done, f.filled w z s p));
        }

    module _ {d2 : D} {i n : ℕ} {part : Sector} (l : done < h.length.0) (k : i ≡ (place done).0) (q : FindsPart meaning does d1 size h first i (Ok part) d2) (e : n ≡ part.0) where
      here-is : (w : World) → size ≡ w.size → IsShown (meaning d) w → Held w first h → n ≡ get_or (extent w.size w.shown first).parts i 0
      here-is w z s p = e ∙ q.part w z (shown-then f.read s) p (few-at done h.length.0 i l k)

    module _ {d2 d3 : D} {i n : ℕ} {part : Sector} {before c : Contents} (l : done < h.length.0) (k : i ≡ (place done).0) (q : FindsPart meaning does d1 size h first i (Ok part) d2) (e : n ≡ part.0) where
      pub filling-lost : {x : DiskFault} → Gets (meaning d2) n before (Err x) (meaning d3) c → does d2 (getting n) (Err x) d3 → Fills meaning does d size h first old (Err (Disk x)) d3 now
      filling-lost {x} g a =
          record {
            reads = more (reads-then f.reads q.reads) a;
            read = read-then (read-then f.read q.read) (read-got g);
            leaves = leaves-then meaning does d3 (Err (Disk x)) (reads-then f.reads q.reads) (read-then f.read q.read) (λ v. q.leaves (f.live v)) (faults g a);
            filled = λ w z s p.
                let t = read-then f.read q.read in
                let u = in-parts w first h p i (few-at done h.length.0 i l k) in
                let v = part-inside w first h p i u in
                let y = here-is l k q e w z s p in
                let zs = t.size in
                let ss = s.size in
                (gone-inside x.cause (meaning d2) (meaning d3) n x g.answer.why (omega arith), (done, f.filled w z s p));
          }

      pub filling-more : (o m : ℕ) {next : ℕ} {new : List ℕ} → Gets (meaning d2) n before (Ok tt) (meaning d3) c → does d2 (getting n) (Ok tt) d3 → o ≡ (place done).1 → new ≡ written now done (take m (drop o c)) → next ≡ done + m →
          done + m ≤ h.length.0 → done + m ≤ length old → o + m ≤ sector_size → length c ≡ sector_size → Filling meaning does d size h first old next d3 new
      filling-more o m g a j r b u v y x =
          record {
            reads = more (reads-then f.reads q.reads) a;
            read = read-then (read-then f.read q.read) (read-got g);
            live = λ _. g.answer.live;
            filled = λ w z s p.
                let t = read-then f.read q.read in
                let file = extent w.size w.shown first in
                let is = here-is l k q e w z s p in
                let long = long-held w first h p in
                let shown = got-shown g (shown-then t s) is in
                let bl = bytes_long w.shown file in
                r ∙ ap (λ (l : List ℕ). written l done (take m (drop o c))) (f.filled w z s p)
                ∙ ap (written (overlaid (take done (bytes_of w.shown file)) old) done) (piece w.shown file c done m i o (omega arith) k j y x shown)
                ∙ chunk done m (bytes_of w.shown file) old (omega arith) v ∙ ap (λ (k : ℕ). overlaid (take k (bytes_of w.shown file)) old) (sym b);
          }
