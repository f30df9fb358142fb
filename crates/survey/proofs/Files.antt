-- A file's questions, in parts.
use Rattle.std.proofs.Common.{◌≡◌, not, zero-add, ℕ, zero, suc, ◌+◌, ◌*◌, ◌<◌, ◌≤◌, Bool, true, false, cond, eqb, leb, ltb, List, get_or, Some, None, Ok, Err, Option, sym, refl, ap, ◌∙◌, subst, arith}
use Rattle.std.proofs.lemmas.Bool.{cond-true, cond-false, le-leb, lt-leb}
use Rattle.disk.specs.Meaning.{Contents, Meaning}
use Rattle.disk.specs.Rules.{Answer, Request}
use Rattle.numbers.specs.declared.sector.Address.{Address}
use Rattle.numbers.specs.declared.sector.Sector.{Sector}
use Rattle.numbers.specs.Lengths.{near_sectors, table_sectors, most_tables, longest, last_sector, length_of, tables}
use Rattle.numbers.proofs.Sizes.{only}
use Rattle.numbers.specs.Sectors.{address}
use Rattle.layout.specs.declared.header.Header.{Header}
use Rattle.layout.specs.declared.header.HeaderFault.{HeaderFault}
use Rattle.layout.specs.declared.header.HeaderFault.TheVariants.{Mark, End, Link}
use Rattle.layout.specs.Words.{word_size, word}
use Rattle.layout.specs.Headers.{last_at, used_at, near_at, tables_at, read_header, addresses_in}
use Rattle.catalog.specs.declared.fault.LayoutFault.{LayoutFault}
use Rattle.catalog.specs.declared.fault.LayoutFault.TheVariants.{BadMark, BadAddress, BadLength}
use Rattle.catalog.specs.declared.fault.VolumeFault.{VolumeFault}
use Rattle.catalog.specs.declared.fault.VolumeFault.TheVariants.{Layout}
use Rattle.catalog.specs.Questions.{Step, ask, ◌▸◌, done, link, ask_table, ask_file}
use Rattle.survey.specs.declared.findings.Findings.{Findings}
use Rattle.survey.specs.Asks.{World, Memory, Done, yes, Asked, Tells, Surveyed, IsShown, Led, address_asks, HeaderOf, head_fault, head_asks, entry_turn, near_turn, near_asks, table_turn, table_asks}
use Rattle.survey.proofs.Steps.{then, stop, ask_yes, ask_no, grouped, run, run_all}
use Rattle.survey.proofs.Tellings.{tells_said, t_nothing, s_said, s_then, s_stop, led-some, led-none, linked_some, linked-none, linked-err}

-- THREE TESTS, one after another, that leave the memory as it is
module _ (x : Memory) (a b c : Bool) (p q r : LayoutFault) where
  abbrev three : World → Step
  three w = ask a p ▸ ask b q ▸ ask c r

  tests : (d : Done) → ((w : World) → Asked w x (three w) d x) → Tells x three d x
  tests d h = record { room = omega arith; asked = h }

  pub no_first : a ≡ false → Tells x three (Err (Layout p)) x
  no_first e = tests _ (λ w. stop (ask a p ▸ ask b q) (ask c r) (stop (ask a p) (ask b q) (ask_no w x x a p e)))

  pub no-second : a ≡ true → b ≡ false → Tells x three (Err (Layout q)) x
  no-second e f = tests _ (λ w. stop (ask a p ▸ ask b q) (ask c r) (then (ask a p) (ask b q) (ask_yes w x a p e) (ask_no w x x b q f)))

  pub no-third : a ≡ true → b ≡ true → c ≡ false → Tells x three (Err (Layout r)) x
  no-third e f g = tests _ (λ w. then (ask a p ▸ ask b q) (ask c r) (then (ask a p) (ask b q) (ask_yes w x a p e) (ask_yes w x b q f)) (ask_no w x x c r g))

  pub no_none : a ≡ true → b ≡ true → c ≡ true → Tells x three yes x
  no_none e f g = tests _ (λ w. then (ask a p ▸ ask b q) (ask c r) (then (ask a p) (ask b q) (ask_yes w x a p e) (ask_yes w x b q f)) (ask_yes w x c r g))

-- THE HEAD of a file
conds-ok : (a b : Bool) (x h : Header) → Ok h ≡ cond a (cond b (Ok x) (Err End)) (Err Mark) → (a ≡ true) × (b ≡ true) × (h ≡ x)
conds-ok true true x h e = (refl, refl, cc)
conds-ok true false x h e = cc
conds-ok false b x h e = cc

conds-mark : (a b : Bool) (x : Header) → Err Mark ≡ cond a (cond b (Ok x) (Err End)) (Err Mark) → a ≡ false
conds-mark true true x e = cc
conds-mark true false x e = cc
conds-mark false b x e = refl

conds-end : (a b : Bool) (x : Header) → Err End ≡ cond a (cond b (Ok x) (Err End)) (Err Mark) → (a ≡ true) × (b ≡ false)
conds-end true true x e = cc
conds-end true false x e = (refl, refl)
conds-end false b x e = cc

conds-link : (a b : Bool) (x : Header) → Err Link ≡ cond a (cond b (Ok x) (Err End)) (Err Mark) → ⊥
conds-link true true x e = cc
conds-link true false x e = cc
conds-link false b x e = cc

module _ (c : Contents) (s : Sector) (x : Memory) where
  pub head-no : (f : HeaderFault) → Err f ≡ read_header c → Tells x (λ w. head_asks c s.0) (Err (Layout (head_fault f s))) x
  unfolding head_asks
  head-no Mark e = no_first x _ _ _ _ _ _ (conds-mark _ _ _ e)
  head-no End e = let p = conds-end _ _ _ e in no-second x _ _ _ _ _ _ p.0 p.1
  head-no Link e = absurd (conds-link _ _ _ e)

  pub head-own : (h : Header) → Ok h ≡ read_header c → eqb (word c near_at) (address s.0) ≡ false → Tells x (λ w. head_asks c s.0) (Err (Layout (BadAddress s))) x
  unfolding head_asks
  head-own h e n = let p = conds-ok _ _ _ h e in no-third x _ _ _ _ _ _ p.0 p.1 n

  pub head-all : (h : Header) → Ok h ≡ read_header c → eqb (word c near_at) (address s.0) ≡ true → Tells x (λ w. head_asks c s.0) yes x
  unfolding head_asks
  head-all h e n = let p = conds-ok _ _ _ h e in no_none x _ _ _ (BadMark s) (BadLength s) (BadAddress s) p.0 p.1 n

pub header-of : (c : Contents) (h : Header) → Ok h ≡ read_header c → HeaderOf c h
header-of c h e = let p = conds-ok _ _ _ h e in record { fields = p.2; end = p.1 }

pub own-test : {n : Bool} {a : ℕ} (c : Contents) (h : Header) (d : Address) (s : ℕ) (v : Bool) → HeaderOf c h → n ≡ not (eqb (get_or h.sectors 0 d).0 a) → a ≡ address s → n ≡ v → eqb (word c near_at) (address s) ≡ not v
own-test {n} {a} c h d s v p e f g =
    let w : (get_or h.sectors 0 d).0 ≡ word c near_at = ap (λ (y : Header). (get_or y.sectors 0 d).0) p.fields in
    let q : eqb (word c near_at) (address s) ≡ eqb (get_or h.sectors 0 d).0 a = ap (λ (z : ℕ). eqb z (address s)) (sym w) ∙ ap (eqb (get_or h.sectors 0 d).0) (sym f) in
    flip (eqb (get_or h.sectors 0 d).0 a) _ v (sym e ∙ g) (sym q)
  where
    flip : (t u v : Bool) → not t ≡ v → t ≡ u → u ≡ not v
    flip true u v h k = sym k ∙ ap not h
    flip false u v h k = sym k ∙ ap not h

-- ADDRESSES of the header that a sector holds
pub address-at : (c : Contents) (i n k : ℕ) (d : Address) → k < n → (get_or (addresses_in c i n) k d).0 ≡ word c (i + word_size * k)
address-at c i zero k d h = absurd (omega arith)
address-at c i (suc n) zero d h = ap (word c) (omega arith)
address-at c i (suc n) (suc k) d h = address-at c (i + word_size) n k d (omega arith) ∙ ap (word c) (omega arith)

module _ (c : Contents) (h : Header) (p : HeaderOf c h) where
  pub near-word : (i : ℕ) (d : Address) → i < near_sectors → (get_or h.sectors i d).0 ≡ word c (near_at + word_size * i)
  near-word i d l = ap (λ (y : Header). (get_or y.sectors i d).0) p.fields ∙ address-at c near_at near_sectors i d l

  pub table-word : (k : ℕ) (d : Address) → k < most_tables → (get_or h.tables k d).0 ≡ word c (tables_at + word_size * k)
  table-word k d l = ap (λ (y : Header). (get_or y.tables k d).0) p.fields ∙ address-at c tables_at most_tables k d l

  pub last-word : {a : ℕ} → a ≡ last_sector h.length.0 → a ≡ word c last_at
  last-word e = e ∙ ap (λ (y : Header). last_sector y.length.0) p.fields ∙ (only (word c last_at) (word c used_at) p.end).1

  pub length-word : (h.length.0 ≡ length_of (word c last_at) (word c used_at)) × (h.length.0 ≤ longest)
  length-word =
      let e : h.length.0 ≡ length_of (word c last_at) (word c used_at) = ap (λ (y : Header). y.length.0) p.fields in
      (e, subst (λ (z : ℕ). z ≤ longest) (sym e) (only (word c last_at) (word c used_at) p.end).0)

  -- a turn of the near addresses
  pub near_asked : {x x1 : Memory} {r : Done} (s i last : ℕ) (d : Address) → i < near_sectors → last ≡ last_sector h.length.0 → Tells x (address_asks (leb i last) s (get_or h.sectors i d).0) r x1 → Tells x (λ w. near_turn c s w i) r x1
  unfolding near_turn
  near_asked s i last d l e q =
      tells_said (λ w. ap (λ (z : ℕ). address_asks (leb i z) s (get_or h.sectors i d).0 w) (last-word e) ∙ ap (λ (z : ℕ). address_asks (leb i (word c last_at)) s z w) (near-word i d l)) refl q

  -- and of the extension addresses, with their tables
  pub table-said : (s k last due-of : ℕ) (d : Address) → k < most_tables → last ≡ last_sector h.length.0 → due-of ≡ tables last → (w : World) →
      link w.size w.shown (ltb k due-of) s (get_or h.tables k d).0 (ask_table w.size w.shown last k) ≡ table_turn c s w k
  unfolding table_turn
  table-said s k last due-of d l e f w =
      let q = last-word e in
      ap (λ (z : ℕ). link w.size w.shown (ltb k z) s (get_or h.tables k d).0 (ask_table w.size w.shown last k)) (f ∙ ap tables q)
      ∙ ap (λ (z : ℕ). link w.size w.shown (ltb k (tables (word c last_at))) s z (ask_table w.size w.shown last k)) (table-word k d l)
      ∙ ap (λ (z : ℕ). link w.size w.shown (ltb k (tables (word c last_at))) s (word c (tables_at + word_size * k)) (ask_table w.size w.shown z k)) q

  pub turn-some : {D : Type 0} {meaning : D → Meaning} {does : D → Request → Answer → D → Type 0} {dk dk2 : D} {x x1 x2 : Memory} {r : Done} {o : Option Sector} {n : Sector} (k1 : Findings) (s k last due-of : ℕ) (d : Address) → k < most_tables → last ≡ last_sector h.length.0 → due-of ≡ tables last → o ≡ Some n → Led (ltb k due-of) (get_or h.tables k d).0 k1 o → Tells x (address_asks (ltb k due-of) s (get_or h.tables k d).0) yes x1 →
      Surveyed meaning does dk x1 (λ w. ask_table w.size w.shown last k n.0) r dk2 x2 → Surveyed meaning does dk x (λ w. table_turn c s w k) r dk2 x2
  turn-some {n = n} k1 s k last due-of d l e f is led p q =
      let i = led-some (get_or h.tables k d).0 k1 is led in
      s_said (λ w y. table-said s k last due-of d l e f w) refl (linked_some (ltb k due-of) s (get_or h.tables k d).0 n.0 (λ w j. ask_table w.size w.shown last k j) i.0 i.1 p q)

  pub turn-none : {D : Type 0} {meaning : D → Meaning} {does : D → Request → Answer → D → Type 0} {x x1 : Memory} {o : Option Sector} (dk : D) (k1 : Findings) (s k last due-of : ℕ) (d : Address) → k < most_tables → last ≡ last_sector h.length.0 → due-of ≡ tables last → o ≡ None → Led (ltb k due-of) (get_or h.tables k d).0 k1 o → Tells x (address_asks (ltb k due-of) s (get_or h.tables k d).0) yes x1 → Surveyed meaning does dk x (λ w. table_turn c s w k) yes dk x1
  turn-none dk k1 s k last due-of d l e f is led p =
      s_said (λ w y. table-said s k last due-of d l e f w) refl (linked-none dk (ltb k due-of) s (get_or h.tables k d).0 (λ w j. ask_table w.size w.shown last k j) (led-none (get_or h.tables k d).0 k1 is led) p)

  pub turn-err : {D : Type 0} {meaning : D → Meaning} {does : D → Request → Answer → D → Type 0} {x x1 : Memory} {v : LayoutFault} (dk : D) (s k last due-of : ℕ) (d : Address) → k < most_tables → last ≡ last_sector h.length.0 → due-of ≡ tables last → Tells x (address_asks (ltb k due-of) s (get_or h.tables k d).0) (Err (Layout v)) x1 → Surveyed meaning does dk x (λ w. table_turn c s w k) (Err (Layout v)) dk x1
  turn-err dk s k last due-of d l e f p =
      s_said (λ w y. table-said s k last due-of d l e f w) refl (linked-err dk (ltb k due-of) s (get_or h.tables k d).0 (λ w j. ask_table w.size w.shown last k j) p)

-- all turns
pub near_all : (c : Contents) (s n : ℕ) (w : World) → n ≡ 64 → run (near_turn c s w) 1 n ≡ near_asks c s w
unfolding near_asks
near_all c s n w e = run_all (near_turn c s w) 1 63 n e

pub tables-all : (c : Contents) (s n : ℕ) (w : World) → n ≡ 12 → run (table_turn c s w) 0 n ≡ table_asks c s w
unfolding table_asks
tables-all c s n w e = run_all (table_turn c s w) 0 12 n e

-- A TABLE. A turn whose entry is in use, and one whose is not
turn-in : (c : Contents) (a k t j : ℕ) → near_sectors + table_sectors * k + j ≤ a → (w : World) → address_asks true t (word c (word_size * j)) w ≡ entry_turn c a k t w j
unfolding entry_turn
turn-in c a k t j h w = sym (cond-true _ _ done (le-leb (near_sectors + table_sectors * k + j) a h))

pub entry-in : {x x1 : Memory} {r : Done} (c : Contents) (list : List Address) (a k t j : ℕ) (d : Address) → list ≡ addresses_in c 0 table_sectors → j < table_sectors → near_sectors + table_sectors * k + j ≤ a →
    Tells x (address_asks true t (get_or list j d).0) r x1 → Tells x (λ w. entry_turn c a k t w j) r x1
entry-in c list a k t j d e l h p =
    let z : word_size * j ≡ 0 + word_size * j = omega arith in
    let q = ap (λ (y : List Address). (get_or y j d).0) e ∙ address-at c 0 table_sectors j d l ∙ ap (word c) (sym z) in
    tells_said (λ w. ap (λ (z : ℕ). address_asks true t z w) q ∙ turn-in c a k t j h w) refl p

pub entry-out : (x : Memory) (c : Contents) (a k t j : ℕ) → a < near_sectors + table_sectors * k + j → Tells x (λ w. entry_turn c a k t w j) yes x
unfolding entry_turn
entry-out x c a k t j h = tells_said (λ w. sym (cond-false _ _ done (lt-leb (near_sectors + table_sectors * k + j) a h))) refl (t_nothing x)

pub table-all : (c : Contents) (a k t n : ℕ) (w : World) → n ≡ table_sectors → c ≡ w.shown t → run (entry_turn c a k t w) 0 n ≡ ask_table w.size w.shown a k t
unfolding ask_table entry_turn
table-all c a k t n w e f = ap (λ (y : Contents). run (entry_turn y a k t w) 0 n) f ∙ run_all (entry_turn (w.shown t) a k t w) 0 table_sectors n (e ∙ sym (zero-add table_sectors))

-- THE WHOLE of a file's questions
pub file-said : (w : World) (s : ℕ) → (head_asks (w.shown s) s ▸ near_asks (w.shown s) s w) ▸ table_asks (w.shown s) s w ≡ ask_file w.size w.shown s
unfolding ask_file head_asks near_asks table_asks near_turn table_turn
file-said w s = refl

pub file-shown : {m : Meaning} (c : Contents) (s : ℕ) (w : World) → IsShown m w → s < m.size → c ≡ m.shown s → (head_asks (w.shown s) s ▸ near_asks c s w) ▸ table_asks c s w ≡ ask_file w.size w.shown s
file-shown {m} c s w y l e = ap (λ (b : Contents). (head_asks (w.shown s) s ▸ near_asks b s w) ▸ table_asks b s w) (e ∙ y.shows s l) ∙ file-said w s

-- the header's part and the addresses' part
pub parts : {D : Type 0} {meaning : D → Meaning} {does : D → Request → Answer → D → Type 0} {dk dk1 dk2 : D} {x x2 : Memory} {r : Done} (c : Contents) (s : ℕ) → s < (meaning dk).size → c ≡ (meaning dk).shown s →
    Surveyed meaning does dk x (λ w. head_asks (w.shown s) s) yes dk1 x → Surveyed meaning does dk1 x (λ w. near_asks c s w ▸ table_asks c s w) r dk2 x2 → Surveyed meaning does dk x (λ w. ask_file w.size w.shown s) r dk2 x2
parts c s l e p q = s_said (λ w y. grouped (head_asks (w.shown s) s) (near_asks c s w) (table_asks c s w) ∙ file-shown c s w y l e) refl (s_then (λ w. head_asks (w.shown s) s) (λ w. near_asks c s w ▸ table_asks c s w) p q)

pub head-only : {D : Type 0} {meaning : D → Meaning} {does : D → Request → Answer → D → Type 0} {dk dk1 : D} {x x1 : Memory} {v : VolumeFault} (s : ℕ) →
    Surveyed meaning does dk x (λ w. head_asks (w.shown s) s) (Err v) dk1 x1 → Surveyed meaning does dk x (λ w. ask_file w.size w.shown s) (Err v) dk1 x1
head-only s p = s_said (λ w y. grouped (head_asks (w.shown s) s) (near_asks (w.shown s) s w) (table_asks (w.shown s) s w) ∙ file-said w s) refl (s_stop (λ w. head_asks (w.shown s) s) (λ w. near_asks (w.shown s) s w ▸ table_asks (w.shown s) s w) p)
