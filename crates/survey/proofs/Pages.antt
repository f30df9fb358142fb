-- A page's questions, in parts.
use Rattle.std.proofs.Common.{◌≡◌, zero-add, ℕ, suc, ◌+◌, ◌-◌, ◌/◌, ◌<◌, ◌≤◌, Bool, true, false, cond, not, eqb, leb, ◌&&◌, ◌||◌, List, MatchOption, MatchResult, Some, None, Ok, Err, Option, Result, is_err, sym, refl, ap, ◌∙◌, subst, arith}
use Rattle.std.proofs.lemmas.Bool.{and_parts, leb-true}
use Rattle.disk.specs.Meaning.{Contents, Meaning}
use Rattle.disk.specs.Rules.{Answer, Request, Gets}
use Rattle.disk.specs.Rules.Request.{getting}
use Rattle.numbers.specs.declared.sector.Sector.{Sector}
use Rattle.numbers.specs.Lengths.{length_of}
use Rattle.numbers.specs.Sectors.{address_step}
use Rattle.numbers.specs.Names.{name_size, name_in}
use Rattle.layout.specs.declared.entry.PageHead.{PageHead}
use Rattle.layout.specs.declared.entry.StoredEntry.{StoredEntry}
use Rattle.layout.specs.declared.entry.PageKind.{PageKind}
use Rattle.layout.specs.declared.entry.PageFault.{PageFault}
use Rattle.layout.specs.declared.entry.PageFault.TheVariants.{Mark}
use Rattle.layout.specs.Words.{word, part}
use Rattle.layout.specs.Entries.{count_at, first_at, most_entries, entry_at, file_at, below_at, least_of, count_fits, count_fault, head_in, is_leaf, stored_in}
use Rattle.layout.specs.Headers.{last_at, used_at}
use Rattle.tree.specs.Tree.{most_levels}
use Rattle.catalog.specs.declared.fault.LayoutFault.{LayoutFault}
use Rattle.catalog.specs.declared.fault.LayoutFault.TheVariants.{BadMark, BadCount, BadLevel}
use Rattle.catalog.specs.declared.fault.VolumeFault.{VolumeFault}
use Rattle.catalog.specs.declared.fault.VolumeFault.TheVariants.{Layout}
use Rattle.catalog.specs.Questions.{Step, ◌▸◌, each, link, rise, list, kind_at, length_at, ask_file, ask_entry, ask_page}
use Rattle.catalog.specs.Catalogs.{range}
use Rattle.survey.specs.declared.findings.Findings.{Findings}
use Rattle.survey.specs.Lines.{met_count}
use Rattle.survey.specs.Asks.{World, Memory, Done, yes, Agrees, Asked, Tells, Surveyed, IsShown, address_asks, Led, top_asks, TopOf, entry_asks, below_asks, page_turn}
use Rattle.survey.proofs.Steps.{then, run, run_all}
use Rattle.survey.proofs.Tellings.{s_said, s_then, s_stop, s_read, got-shown, still, led-some, led-none, link-some, linked_some, linked-none, linked-err}
use Rattle.survey.proofs.Files.{no_first, no-second, no-third, no_none}

-- THE TOP of a page
mark-yes : (b : Bool) (p h : PageHead) → Ok h ≡ cond b (Ok p) (Err Mark) → (b ≡ true) × (h ≡ p)
mark-yes true p h e = (refl, cc)
mark-yes false p h e = cc

mark-no : (b : Bool) (p : PageHead) (r : Result PageHead PageFault) → r ≡ cond b (Ok p) (Err Mark) → ((h : PageHead) → r ≡ Ok h → ⊥) → b ≡ false
mark-no true p r e n = absurd (n p e)
mark-no false p r e n = refl

pub count-test : {kind kind' : PageKind} {t : Bool} (r : Result (Unit {0}) PageFault) (leaf : Bool) (m : ℕ) (v : Bool) →
    MatchResult r (λ _. count_fits kind leaf m ≡ true) (λ f. (count_fits kind leaf m ≡ false) × (f ≡ count_fault kind leaf)) → kind ≡ kind' → t ≡ is_err r → t ≡ v → count_fits kind' leaf m ≡ not v
count-test (Ok u) leaf m v h k e f = ap (λ (y : PageKind). count_fits y leaf m) (sym k) ∙ h ∙ ap not (sym e ∙ f)
count-test (Err x) leaf m v h k e f = ap (λ (y : PageKind). count_fits y leaf m) (sym k) ∙ h.0 ∙ ap not (sym e ∙ f)

pub level-test : {t l : Bool} (level deep : ℕ) (h : PageHead) (v : Bool) → t ≡ (leb level most_levels && (not l || eqb level deep)) → l ≡ is_leaf h → t ≡ v → (leb level most_levels && (not (is_leaf h) || eqb level deep)) ≡ v
level-test level deep h v e f g = sym (e ∙ ap (λ (y : Bool). leb level most_levels && (not y || eqb level deep)) f) ∙ g

module _ (c : Contents) (deep level : ℕ) (s : Sector) (x : Memory) where
  abbrev Top : Done → Type 0
  Top r = Tells x (λ w. top_asks c deep level s.0) r x

  pub top-mark : (r : Result PageHead PageFault) → r ≡ head_in c → ((h : PageHead) → r ≡ Ok h → ⊥) → Top (Err (Layout (BadMark s)))
  unfolding top_asks
  top-mark r e n = no_first x _ _ _ _ _ _ (mark-no _ _ r e n)

  module _ (h : PageHead) (e : Ok h ≡ head_in c) where
    pub top-head : h ≡ record { count = word c count_at; first = record { 0 = word c first_at } }
    top-head = (mark-yes _ _ h e).1

    fits : (b : Bool) → count_fits (kind_at level) (is_leaf h) h.count ≡ b → count_fits (kind_at level) (eqb (word c first_at) 0) (word c count_at) ≡ b
    fits b f = sym (ap (λ (y : PageHead). count_fits (kind_at level) (is_leaf y) y.count) top-head) ∙ f

    pub top-count : count_fits (kind_at level) (is_leaf h) h.count ≡ false → Top (Err (Layout (BadCount s)))
    unfolding top_asks
    top-count f = no-second x _ _ _ _ _ _ (mark-yes _ _ h e).0 (fits false f)

    on : (b : Bool) → (leb level most_levels && (not (is_leaf h) || eqb level deep)) ≡ b → (leb level most_levels && (not (eqb (word c first_at) 0) || eqb level deep)) ≡ b
    on b f = sym (ap (λ (y : PageHead). leb level most_levels && (not (is_leaf y) || eqb level deep)) top-head) ∙ f

    pub top-level : count_fits (kind_at level) (is_leaf h) h.count ≡ true → (leb level most_levels && (not (is_leaf h) || eqb level deep)) ≡ false → Top (Err (Layout (BadLevel s)))
    unfolding top_asks
    top-level f g = no-third x _ _ _ _ _ _ (mark-yes _ _ h e).0 (fits true f) (on false g)

    pub top-all : count_fits (kind_at level) (is_leaf h) h.count ≡ true → (leb level most_levels && (not (is_leaf h) || eqb level deep)) ≡ true → Top yes
    unfolding top_asks
    top-all f g = no_none x _ _ _ (BadMark s) (BadCount s) (BadLevel s) (mark-yes _ _ h e).0 (fits true f) (on true g)

pub top-of : (c : Contents) (deep level : ℕ) (h : PageHead) → Ok h ≡ head_in c → count_fits (kind_at level) (is_leaf h) h.count ≡ true → (leb level most_levels && (not (is_leaf h) || eqb level deep)) ≡ true → TopOf c level h
top-of c deep level h e f g =
    let p = (mark-yes _ _ h e).1 in
    record {
      count = ap (λ (y : PageHead). y.count) p;
      first = ap (λ (y : PageHead). y.first.0) p;
      few = leb-true h.count most_entries (and_parts (leb (least_of (kind_at level) (is_leaf h)) h.count) _ f).1;
      high = leb-true level most_levels (and_parts (leb level most_levels) _ g).0;
    }

-- AN ENTRY. Its name, the address of its file, the file, and the line that lists it
module _ {D : Type 0} {meaning : D → Meaning} {does : D → Request → Answer → D → Type 0} where
  pub entry-no-name : {x x1 : Memory} {e : LayoutFault} (d : D) (s : ℕ) (f : List ℕ) (a : ℕ) → Tells x (λ w. rise s f) (Err (Layout e)) x1 → Surveyed meaning does d x (entry_asks s f a) (Err (Layout e)) d x1
  unfolding entry_asks
  entry-no-name {e = e} d s f a p = s_stop (λ w. rise s f) (λ w. link w.size w.shown true s a (ask_entry w.size w.shown (name_in f))) (still {T = Unit {0}} d (Err e) p)

  pub entry-no-file : {x x1 x2 : Memory} {e : LayoutFault} (d : D) (s : ℕ) (f : List ℕ) (a : ℕ) → Tells x (λ w. rise s f) yes x1 → Tells x1 (address_asks true s a) (Err (Layout e)) x2 → Surveyed meaning does d x (entry_asks s f a) (Err (Layout e)) d x2
  unfolding entry_asks
  entry-no-file {e = e} d s f a p q =
      s_then (λ w. rise s f) (λ w. link w.size w.shown true s a (ask_entry w.size w.shown (name_in f))) (still {T = Unit {0}} d (Ok tt) p)
      (linked-err d true s a (λ w. ask_entry w.size w.shown (name_in f)) q)

  pub entry-stopped : {d d' : D} {x x1 x2 x3 : Memory} {e : VolumeFault} (s : ℕ) (f : List ℕ) (a n : ℕ) → Tells x (λ w. rise s f) yes x1 → Tells x1 (address_asks true s a) yes x2 → n ≡ a / address_step →
      Surveyed meaning does d x2 (λ w. ask_file w.size w.shown n) (Err e) d' x3 → Surveyed meaning does d x (entry_asks s f a) (Err e) d' x3
  unfolding entry_asks
  entry-stopped {d} s f a n p q is r =
      s_then (λ w. rise s f) (λ w. link w.size w.shown true s a (ask_entry w.size w.shown (name_in f))) (still {T = Unit {0}} d (Ok tt) p)
      (linked_some true s a n (λ w j. ask_entry w.size w.shown (name_in f) j) refl is q
      (s_stop (λ w. ask_file w.size w.shown n) (λ w. list (record { name = name_in f; first = n; long = length_at w.size w.shown n })) r))

  -- the line, of the length that the disk shows
  pub with_line : {d d' : D} {x2 x3 x4 : Memory} (f : List ℕ) (n long : ℕ) → Surveyed meaning does d x2 (λ w. ask_file w.size w.shown n) yes d' x3 → n < (meaning d).size → long ≡ length_at (meaning d).size (meaning d).shown n →
      ((w : World) → Asked w x3 (list (record { name = name_in f; first = n; long = long })) yes x4) → (w : World) → IsShown (meaning d) w → Asked w x2 (ask_entry w.size w.shown (name_in f) n) yes x4
  with_line {d} {x3 = x3} {x4 = x4} f n long p l e q w y =
      let g : long ≡ length_at w.size w.shown n = e ∙ ap (λ (c : Contents). length_of (word c last_at) (word c used_at)) (y.shows n l) in
      then (ask_file w.size w.shown n) (list (record { name = name_in f; first = n; long = length_at w.size w.shown n })) (p.asked w y)
      (subst (λ (z : ℕ). Asked w x3 (list (record { name = name_in f; first = n; long = z })) yes x4) g (q w))

  pub entry-all : {d d' : D} {x x1 x2 x3 x4 : Memory} (s : ℕ) (f : List ℕ) (a n long : ℕ) → Tells x (λ w. rise s f) yes x1 → Tells x1 (address_asks true s a) yes x2 → n ≡ a / address_step →
      (x2.found.names ≡ x1.found.names) × (met_count x2.found.map.met ≡ met_count x1.found.map.met + 1) →
      Surveyed meaning does d x2 (λ w. ask_file w.size w.shown n) yes d' x3 → n < (meaning d).size → long ≡ length_at (meaning d).size (meaning d).shown n →
      ((w : World) → Asked w x3 (list (record { name = name_in f; first = n; long = long })) yes x4) → x4.found.names ≡ x3.found.names + 1 → x4.found.map.met ≡ x3.found.map.met →
      Surveyed meaning does d x (entry_asks s f a) yes d' x4
  unfolding entry_asks
  entry-all {d} {d'} {x} {x1} {x2} {x3} {x4} s f a n long p q is more r l e t c m =
      let i = p.room in
      let j = r.room in
      let k : met_count x4.found.map.met ≡ met_count x3.found.map.met = ap met_count m in
      record {
        reads = r.reads;
        read = r.read;
        leaves = r.leaves;
        room = omega (arith, more.0, more.1);
        asked = λ w y.
            then (rise s f) (link w.size w.shown true s a (ask_entry w.size w.shown (name_in f))) (p.asked w)
            (link-some w s a (ask_entry w.size w.shown (name_in f)) true refl (q.asked w)
            (subst (λ (j : ℕ). Asked w x2 (ask_entry w.size w.shown (name_in f) j) yes x4) is (with_line f n long r l e t w y)));
      }

-- a line whose name stands in its field
pub in-field : {x x' : Memory} {b f : List ℕ} {n long : ℕ} → b ≡ f → ((w : World) → Asked w x (list (record { name = name_in b; first = n; long = long })) yes x') → (w : World) → Asked w x (list (record { name = name_in f; first = n; long = long })) yes x'
in-field {x} {x'} {b} {f} {n} {long} e p w = subst (λ (y : List ℕ). Asked w x (list (record { name = name_in y; first = n; long = long })) yes x') e (p w)

-- BELOW a page
module _ {D : Type 0} {meaning : D → Meaning} {does : D → Request → Answer → D → Type 0} where
  pub below-none : {x x1 : Memory} {o : Option Sector} (d : D) (k1 : Findings) (level : ℕ) (due : Bool) (s a : ℕ) → o ≡ None → Led due a k1 o → Tells x (address_asks due s a) yes x1 → Surveyed meaning does d x (below_asks level due s a) yes d x1
  unfolding below_asks
  below-none d k1 level due s a is l p = linked-none d due s a (λ w. ask_page w.size w.shown w.deep (5 - level) (suc level)) (led-none a k1 is l) p

  pub below-err : {x x1 : Memory} {e : LayoutFault} (d : D) (level : ℕ) (due : Bool) (s a : ℕ) → Tells x (address_asks due s a) (Err (Layout e)) x1 → Surveyed meaning does d x (below_asks level due s a) (Err (Layout e)) d x1
  unfolding below_asks
  below-err d level due s a p = linked-err d due s a (λ w. ask_page w.size w.shown w.deep (5 - level) (suc level)) p

  pub below-some : {d d2 : D} {x x1 x2 : Memory} {r : Done} {o : Option Sector} {n : Sector} (k1 : Findings) (level : ℕ) (due : Bool) (s a : ℕ) → o ≡ Some n → Led due a k1 o → Tells x (address_asks due s a) yes x1 →
      Surveyed meaning does d x1 (λ w. ask_page w.size w.shown w.deep (6 - (level + 1)) (level + 1) n.0) r d2 x2 → Surveyed meaning does d x (below_asks level due s a) r d2 x2
  unfolding below_asks
  below-some {n = n} k1 level due s a is l p q =
      let i = led-some a k1 is l in
      let e : 6 - (level + 1) ≡ 5 - level = omega arith in
      let f : level + 1 ≡ suc level = omega arith in
      linked_some due s a n.0 (λ w j. ask_page w.size w.shown w.deep (5 - level) (suc level) j) i.0 i.1 p
      (s_said (λ w y. ap (λ (z : ℕ). ask_page w.size w.shown w.deep z (level + 1) n.0) e ∙ ap (λ (z : ℕ). ask_page w.size w.shown w.deep (5 - level) z n.0) f) refl q)

-- THE WHOLE PAGE
turns-are : (c : Contents) (level s : ℕ) (w : World) (i : ℕ) →
    rise s (part c (entry_at i) name_size) ▸
    link w.size w.shown true s (word c (entry_at i + file_at)) (ask_entry w.size w.shown (name_in (part c (entry_at i) name_size))) ▸
    link w.size w.shown (not (eqb (word c first_at) 0)) s (word c (entry_at i + below_at)) (ask_page w.size w.shown w.deep (5 - level) (suc level)) ≡ page_turn c level s w i
unfolding page_turn entry_asks below_asks
turns-are c level s w i = refl

module _ (c : Contents) (level s n : ℕ) where
  abbrev rest : World → Step
  rest w = run (page_turn c level s w) 0 n

  abbrev pub first : World → Step
  first w = below_asks level (not (eqb (word c first_at) 0)) s (word c first_at) w

page-at : (w : World) (level s : ℕ) → (top_asks (w.shown s) w.deep level s ▸ first (w.shown s) level s 0 w) ▸ each (page_turn (w.shown s) level s w) (range 0 (word (w.shown s) count_at)) ≡ ask_page w.size w.shown w.deep (suc (5 - level)) level s
unfolding ask_page top_asks below_asks page_turn entry_asks
page-at w level s = refl

pub page-is : (c : Contents) (level s n : ℕ) (w : World) → level ≤ 5 → c ≡ w.shown s → n ≡ word c count_at → (top_asks c w.deep level s ▸ first c level s n w) ▸ rest c level s n w ≡ ask_page w.size w.shown w.deep (6 - level) level s
page-is c level s n w h e q =
    let i : suc (5 - level) ≡ 6 - level = omega arith in
    ap (λ (g : Step). (top_asks c w.deep level s ▸ first c level s n w) ▸ g) (run_all (page_turn c level s w) 0 (word c count_at) n (q ∙ sym (zero-add (word c count_at))))
    ∙ ap (λ (b : Contents). (top_asks b w.deep level s ▸ first b level s 0 w) ▸ each (page_turn b level s w) (range 0 (word b count_at))) e
    ∙ page-at w level s ∙ ap (λ (z : ℕ). ask_page w.size w.shown w.deep z level s) i

-- the level of leaves is that of the world
pub deep-is : {x x' : Memory} {r : Done} (f : ℕ → Step) → Tells x (λ w. f x.found.leaf_level) r x' → Tells x (λ w. f w.deep) r x'
deep-is {x} {x'} {r} f p =
    record { room = p.room; asked = λ w. record { agrees = λ t y h. subst (λ (z : ℕ). Agrees w t r x' (f z y)) h.deep ((p.asked w).agrees t y h) } }

pub due-is : {l : Bool} (c : Contents) (level : ℕ) (h : PageHead) → TopOf c level h → l ≡ is_leaf h → not l ≡ not (eqb (word c first_at) 0)
due-is c level h p e = ap not (e ∙ ap (λ (z : ℕ). eqb z 0) p.first)

pub stored-is : {e : StoredEntry} (b : Contents) (i : ℕ) (r : Option StoredEntry) → r ≡ Some e → MatchOption r (most_entries ≤ i) (λ (y : StoredEntry). (i < most_entries) × (y ≡ stored_in b i)) → e ≡ stored_in b i
stored-is {e} b i (Some y) q h = let p : y ≡ e = cc in subst (λ (z : StoredEntry). z ≡ stored_in b i) p h.1
stored-is b i None q h = cc

module _ {D : Type 0} {meaning : D → Meaning} {does : D → Request → Answer → D → Type 0} where
  below-said : {d1 d2 : D} {x x2 : Memory} {r : Done} {due due' : Bool} {a a' : ℕ} (level s : ℕ) → due ≡ due' → a ≡ a' → Surveyed meaning does d1 x (below_asks level due s a) r d2 x2 → Surveyed meaning does d1 x (below_asks level due' s a') r d2 x2
  below-said {due' = due'} {a = a} level s f j q = s_said (λ w y. ap (λ (z : Bool). below_asks level z s a w) f ∙ ap (λ (z : ℕ). below_asks level due' s z w) j) refl q

  -- the page was read, and its top is refused
  pub page-no-top : {d d1 : D} {x : Memory} {n : ℕ} {old b : Contents} {e : LayoutFault} (level s : ℕ) → Gets (meaning d) n old (Ok tt) (meaning d1) b → does d (getting n) (Ok tt) d1 → n ≡ s → level ≤ 5 → Tells x (λ w. top_asks b x.found.leaf_level level s) (Err (Layout e)) x →
      Surveyed meaning does d x (λ w. ask_page w.size w.shown w.deep (6 - level) level s) (Err (Layout e)) d1 x
  page-no-top {b = b} {e = e} level s g z i h p =
      s_said (λ w y. page-is b level s (word b count_at) w h (got-shown g y i) refl) refl
      (s_read g z (s_stop (λ w. top_asks b w.deep level s ▸ first b level s 0 w) (rest b level s (word b count_at)) (s_stop (λ w. top_asks b w.deep level s) (first b level s 0) (still {T = Unit {0}} _ (Err e) (deep-is (λ z. top_asks b z level s) p)))))

  -- or what hangs below its first address
  pub page-no-first : {d d1 d2 : D} {x x2 : Memory} {n : ℕ} {old b : Contents} {v : VolumeFault} {due : Bool} {a : ℕ} (level s : ℕ) → Gets (meaning d) n old (Ok tt) (meaning d1) b → does d (getting n) (Ok tt) d1 → n ≡ s → level ≤ 5 → Tells x (λ w. top_asks b x.found.leaf_level level s) yes x →
      due ≡ not (eqb (word b first_at) 0) → a ≡ word b first_at → Surveyed meaning does d1 x (below_asks level due s a) (Err v) d2 x2 → Surveyed meaning does d x (λ w. ask_page w.size w.shown w.deep (6 - level) level s) (Err v) d2 x2
  page-no-first {b = b} level s g z i h p f j q =
      s_said (λ w y. page-is b level s (word b count_at) w h (got-shown g y i) refl) refl
      (s_read g z (s_stop (λ w. top_asks b w.deep level s ▸ first b level s 0 w) (rest b level s (word b count_at))
      (s_then (λ w. top_asks b w.deep level s) (first b level s 0) (still {T = Unit {0}} _ (Ok tt) (deep-is (λ z. top_asks b z level s) p)) (below-said level s f j q))))

  -- or its entries are asked, n of them
  pub page-all : {d d1 d2 d3 : D} {x x2 x3 : Memory} {n m : ℕ} {old b : Contents} {r : Done} {due : Bool} {a : ℕ} (level s : ℕ) → Gets (meaning d) n old (Ok tt) (meaning d1) b → does d (getting n) (Ok tt) d1 → n ≡ s → level ≤ 5 → Tells x (λ w. top_asks b x.found.leaf_level level s) yes x →
      due ≡ not (eqb (word b first_at) 0) → a ≡ word b first_at → Surveyed meaning does d1 x (below_asks level due s a) yes d2 x2 → m ≡ word b count_at → Surveyed meaning does d2 x2 (λ w. run (page_turn b level s w) 0 m) r d3 x3 →
      Surveyed meaning does d x (λ w. ask_page w.size w.shown w.deep (6 - level) level s) r d3 x3
  page-all {m = m} {b = b} level s g z i h p f j q k l =
      s_said (λ w y. page-is b level s m w h (got-shown g y i) k) refl
      (s_read g z (s_then (λ w. top_asks b w.deep level s ▸ first b level s m w) (rest b level s m)
      (s_then (λ w. top_asks b w.deep level s) (first b level s m) (still {T = Unit {0}} _ (Ok tt) (deep-is (λ z. top_asks b z level s) p)) (below-said level s f j q)) l))

  -- a turn of the entries: entry i, and what hangs below it
  entry-said : {d d1 : D} {x x1 : Memory} {r : Done} {e : StoredEntry} (b : Contents) (s i : ℕ) → e ≡ stored_in b i → Surveyed meaning does d x (entry_asks s e.name.bytes e.file.0) r d1 x1 →
      Surveyed meaning does d x (entry_asks s (part b (entry_at i) name_size) (word b (entry_at i + file_at))) r d1 x1
  entry-said b s i q p = s_said (λ w y. ap (λ (z : StoredEntry). entry_asks s z.name.bytes z.file.0 w) q) refl p

  pub turn-stop : {d d1 : D} {x x1 : Memory} {v : VolumeFault} {e : StoredEntry} (b : Contents) (level s i : ℕ) → e ≡ stored_in b i → Surveyed meaning does d x (entry_asks s e.name.bytes e.file.0) (Err v) d1 x1 → Surveyed meaning does d x (λ w. page_turn b level s w i) (Err v) d1 x1
  unfolding page_turn
  turn-stop b level s i q p =
      s_stop (entry_asks s (part b (entry_at i) name_size) (word b (entry_at i + file_at))) (below_asks level (not (eqb (word b first_at) 0)) s (word b (entry_at i + below_at))) (entry-said b s i q p)

  pub turn-both : {d d1 d2 : D} {x x1 x2 : Memory} {r : Done} {e : StoredEntry} {due : Bool} (b : Contents) (level s i : ℕ) → e ≡ stored_in b i → Surveyed meaning does d x (entry_asks s e.name.bytes e.file.0) yes d1 x1 →
      due ≡ not (eqb (word b first_at) 0) → Surveyed meaning does d1 x1 (below_asks level due s e.below.0) r d2 x2 → Surveyed meaning does d x (λ w. page_turn b level s w i) r d2 x2
  unfolding page_turn
  turn-both b level s i q p f l =
      s_then (entry_asks s (part b (entry_at i) name_size) (word b (entry_at i + file_at))) (below_asks level (not (eqb (word b first_at) 0)) s (word b (entry_at i + below_at))) (entry-said b s i q p)
      (below-said level s f (ap (λ (z : StoredEntry). z.below.0) q) l)
