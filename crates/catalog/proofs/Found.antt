-- What is found is what is laid, and the other way round.
use Rattle.std.proofs.Common.{◌≡◌, ℕ, zero, suc, ◌+◌, ◌-◌, ◌/◌, ◌<◌, ◌≤◌, Bool, true, false, cond, eqb, leb, ◌⊎◌, List, [], ◌∷◌, ◌++◌, map, length, replicate, Ok, Err, Result, sym, refl, ap, ◌∙◌, subst, ap₂, inl, inr, arith}
use Rattle.std.proofs.lemmas.Bool.{eqb-true, eqb-false, eq-eqb, ne_eqb, and_parts, leb-true, cases_lt}
use Rattle.numbers.specs.Names.{Key, name_size, good_name, name_in}
use Rattle.numbers.proofs.Naming.{found as named_again}
use Rattle.numbers.specs.Sectors.{address_step, address}
use Rattle.layout.specs.Words.{word, part}
use Rattle.layout.specs.Entries.{zeros_at, entries_at, first_at, entry_at, file_at, below_at}
use Rattle.layout.proofs.Numbers.{length_part}
use Rattle.tree.specs.Tree.{Entry, Item, item, Page, page, most_levels, All, flat, flat_rest, flat_page, lowest}
use Rattle.tree.specs.Stored.{map_rest, map_page}
use Rattle.tree.proofs.Lists.{all_left, all_right, all_map}
use Rattle.disk.specs.Meaning.{Contents, In}
use Rattle.catalog.specs.declared.fault.LayoutFault.{LayoutFault}
use Rattle.catalog.specs.declared.fault.LayoutFault.TheVariants.{BadSize}
use Rattle.catalog.specs.Catalogs.{Laid, Extent, Catalog, bare, entries, sectors_items, sectors_page, sectors_laid, page_sectors, extents_sectors, file_sectors, range}
use Rattle.catalog.specs.Lays.{root_sector, under, ItemsAt, PageAt, Below, Children, LaidAt, FileAt, FilesAt, Lays}
use Rattle.catalog.specs.Questions.{good_size, Sofar, ask, onward, first_leaf, leaf_level, ask_page, extent, laid, catalog, begin, asked, given, found}
use Rattle.catalog.specs.Laws.{Sized, FoundLaid, Unique, RefusedNone, FoundFrame}
use Rattle.catalog.proofs.Frame.{in_left, children, frame}
use Rattle.catalog.proofs.Counts.{tick, occ, occ-append, tick_most, in-occ, occ-in, distinct-occ, occ-distinct}
use Rattle.catalog.proofs.Means.{Can, After, Free}
use Rattle.catalog.proofs.File.{sector-of, file_rest, file-occ, extent-of}
use Rattle.catalog.proofs.Rise.{rising_rises, rises_rising, names-over-none, zeros-are}
use Rattle.catalog.proofs.Pages.{PageAsked, LaidAsked, ok-split, uses_items, uses_page, uses, Sure, PageHolds, item_in, uses_in, names_in, dead, means-page}

all_both : {A : Type 0} (P Q : A → Type 0) (l : List A) → All P l → All Q l → All (λ (x : A). P x × Q x) l
all_both P Q [] h k = tt
all_both P Q (x ∷ l) h k = ((h.0, k.0), all_both P Q l h.1 k.1)

-- ASKED AND LAID. Once the sectors of its pages are long enough, a page is laid if it is asked so, and always the other way round
page_asked : (n : ℕ) (c : Contents) (p : Page Key (Laid n)) → PageAt n c p → PageAsked n c p
page_asked n c (page d xs) h = (h.0, h.1, h.2, rw h.3 refl, h.4)

page_laid : (n : ℕ) (c : Contents) (p : Page Key (Laid n)) → entries_at ≤ length c → PageAsked n c p → PageAt n c p
page_laid n c (page d xs) l h =
    let size = entries_at - zeros_at in
    (h.0, h.1, h.2, zeros-are (part c zeros_at size) h.3 ∙ ap (λ (k : ℕ). replicate k 0) (length_part c zeros_at size l), h.4)

pages_asked : (shown : ℕ → Contents) (n : ℕ) (t : Laid n) → LaidAt shown n t → LaidAsked shown n t
pages_asked shown zero t h = tt
pages_asked shown (suc n) t h =
    (page_asked n (shown t.0) t.1 h.0, children (λ s. Unit {0}) (sectors_laid n) (LaidAt shown n) (LaidAsked shown n) (λ d e k. pages_asked shown n d k) t.1 (λ s i. tt) h.1)

pages_laid : (shown : ℕ → Contents) (n : ℕ) (t : Laid n) → ((s : ℕ) → In s (sectors_laid n t) → entries_at ≤ length (shown s)) → LaidAsked shown n t → LaidAt shown n t
pages_laid shown zero t e h = tt
pages_laid shown (suc n) t e h = (
  page_laid n (shown t.0) t.1 (e t.0 (inl refl)) h.0,
  children (λ s. entries_at ≤ length (shown s)) (sectors_laid n) (LaidAsked shown n) (LaidAt shown n) (λ d k h. pages_laid shown n d k h) t.1 (λ s i. e s (inr i)) h.1,
)

module _ (size : ℕ) (shown : ℕ → Contents) where
  abbrev pub extent_for : Entry Key → Extent
  extent_for e = extent size shown e.1

  -- how often a number stands among the sectors of files
  abbrev occ_files : ℕ → List (Entry Key) → ℕ
  occ_files k es = occ k (extents_sectors (map extent_for es))

  occ_files_more : (k : ℕ) (e : Entry Key) (es : List (Entry Key)) → occ_files k (e ∷ es) ≡ occ k (extent_for e).parts + occ k (extent_for e).tabs + occ_files k es
  occ_files_more k e es =
      let a = occ-append k (extent_for e).parts ((extent_for e).tabs ++ extents_sectors (map extent_for es)) in
      let b = occ-append k (extent_for e).tabs (extents_sectors (map extent_for es)) in
      omega arith

  occ_files-append : (k : ℕ) (l r : List (Entry Key)) → occ_files k (l ++ r) ≡ occ_files k l + occ_files k r
  occ_files-append k [] r = omega arith
  occ_files-append k (e ∷ l) r = let a = occ_files_more k e (l ++ r) in let b = occ_files_more k e l in let d = occ_files-append k l r in omega arith

  -- the sectors met are those of the pages and those of the files
  module _ (k : ℕ) where
    items-occ : (n : ℕ) → ((t : Laid n) → All (Sure size shown) (flat Key n (bare n t)) → occ k (uses size shown n t) ≡ occ k (sectors_laid n t) + occ_files k (flat Key n (bare n t))) →
        (xs : List (Item Key (Laid n))) → All (Sure size shown) (flat_rest (flat Key n) (map_rest (bare n) xs)) →
        occ k (uses_items size shown (uses size shown n) xs) ≡ occ k (sectors_items (sectors_laid n) xs) + occ_files k (flat_rest (flat Key n) (map_rest (bare n) xs))
    items-occ n r [] h = refl
    items-occ n r (item e d ∷ xs) h =
        let es = flat Key n (bare n d) in
        let ds = flat_rest (flat Key n) (map_rest (bare n) xs) in
        let i₁ = r d (all_left (Sure size shown) es ds h.1) in
        let i₂ = items-occ n r xs (all_right (Sure size shown) es ds h.1) in
        let a₁ = occ-append k ((e.1 ∷ file_rest size shown e.1) ++ uses size shown n d) (uses_items size shown (uses size shown n) xs) in
        let a₂ = occ-append k (e.1 ∷ file_rest size shown e.1) (uses size shown n d) in
        let a₃ = occ-append k (sectors_laid n d) (sectors_items (sectors_laid n) xs) in
        let f = file-occ size shown e.1 k h.0.1 in
        let b₁ = occ_files_more k e (es ++ ds) in
        let b₂ = occ_files-append k es ds in
        omega arith

    tree-occ : (n : ℕ) (t : Laid n) → All (Sure size shown) (flat Key n (bare n t)) → occ k (uses size shown n t) ≡ occ k (sectors_laid n t) + occ_files k (flat Key n (bare n t))
    tree-occ zero t h = refl
    tree-occ (suc n) t h = go t.0 t.1 h (λ d g. tree-occ n d g)
      where
        go : (s : ℕ) (p : Page Key (Laid n)) → All (Sure size shown) (flat_page (flat Key n) (map_page (bare n) p)) →
            ((d : Laid n) → All (Sure size shown) (flat Key n (bare n d)) → occ k (uses size shown n d) ≡ occ k (sectors_laid n d) + occ_files k (flat Key n (bare n d))) →
            tick k s + occ k (uses_page size shown (uses size shown n) p) ≡ tick k s + occ k (sectors_page (sectors_laid n) p) + occ_files k (flat_page (flat Key n) (map_page (bare n) p))
        go s (page d xs) h r =
            let es = flat Key n (bare n d) in
            let ds = flat_rest (flat Key n) (map_rest (bare n) xs) in
            let i₁ = r d (all_left (Sure size shown) es ds h) in
            let i₂ = items-occ n r xs (all_right (Sure size shown) es ds h) in
            let a₁ = occ-append k (uses size shown n d) (uses_items size shown (uses size shown n) xs) in
            let a₂ = occ-append k (sectors_laid n d) (sectors_items (sectors_laid n) xs) in
            let b₂ = occ_files-append k es ds in
            omega arith

  -- what the addresses lead to, with n levels below the root
  abbrev pub catalog_at : ℕ → Catalog
  catalog_at n = record { over = n; root = laid size shown (suc n) root_sector; files = map extent_for (names_in size shown n root_sector) }

  pub catalog-is : catalog size shown ≡ catalog_at (leaf_level size shown - 1)
  unfolding catalog
  catalog-is = refl

  root-is : (n : ℕ) → (laid size shown (suc n) root_sector).0 ≡ root_sector
  unfolding laid
  root-is n = refl

  files_sure : (es : List (Entry Key)) → All (Sure size shown) es → FilesAt shown es (map extent_for es)
  files_sure [] h = tt
  files_sure (e ∷ es) h = (h.0.1, files_sure es h.1)

  sure_files : (es : List (Entry Key)) → FilesAt shown es (map extent_for es) → All (λ (e : Entry Key). FileAt shown e.1 (extent_for e)) es
  sure_files [] h = tt
  sure_files (e ∷ es) h = (h.0, sure_files es h.1)

  pub all-occ : (n k : ℕ) → All (Sure size shown) (names_in size shown n root_sector) →
      occ k (page_sectors (catalog_at n) ++ file_sectors (catalog_at n)) ≡ tick k root_sector + occ k (uses_in size shown n root_sector)
  unfolding laid
  all-occ n k h =
      let a = occ-append k (page_sectors (catalog_at n)) (file_sectors (catalog_at n)) in
      let b = tree-occ k (suc n) (laid size shown (suc n) root_sector) h in
      a ∙ sym b

  abbrev pub start : Sofar
  start = begin size shown root_sector

  -- the sectors of what passed: each once, and on the disk
  module _ (n : ℕ) (two : 2 ≤ size) (sure : All (Sure size shown) (names_in size shown n root_sector)) (free : Free size (uses_in size shown n root_sector) (root_sector ∷ [])) where
    abbrev all : List ℕ
    all = page_sectors (catalog_at n) ++ file_sectors (catalog_at n)

    pub sectors-once : (k : ℕ) → occ k all ≡ tick k root_sector + occ k (uses_in size shown n root_sector) → occ k all ≤ 1
    sectors-once k e = subst (λ (z : ℕ). z ≤ 1) (sym e) (most (free k))
      where
        most : (occ k (uses_in size shown n root_sector) ≡ 0) ⊎ ((occ k (uses_in size shown n root_sector) + (tick k root_sector + 0) ≤ 1) × (2 ≤ k) × (k < size)) → tick k root_sector + occ k (uses_in size shown n root_sector) ≤ 1
        most (inl z) = let t = tick_most k root_sector in omega arith
        most (inr z) = omega arith

    pub sectors-within : (s : ℕ) → In s all → (1 ≤ s) × (s < size)
    sectors-within s i = inside (free s) (subst (λ (z : ℕ). 1 ≤ z) (all-occ n s sure) (in-occ s all i))
      where
        inside : (occ s (uses_in size shown n root_sector) ≡ 0) ⊎ ((occ s (uses_in size shown n root_sector) + (tick s root_sector + 0) ≤ 1) × (2 ≤ s) × (s < size)) → 1 ≤ tick s root_sector + occ s (uses_in size shown n root_sector) → (1 ≤ s) × (s < size)
        inside (inr z) h = omega arith
        inside (inl z) h = root (eqb s root_sector) refl (omega arith)
          where
            root : (b : Bool) → eqb s root_sector ≡ b → 1 ≤ cond b 1 0 → (1 ≤ s) × (s < size)
            root true e h = let q = eqb-true s root_sector e in omega arith
            root false e h = absurd (omega arith)

  whole-laid : (n : ℕ) → 2 ≤ size → Sized size shown → suc n ≤ most_levels → PageHolds size shown (lowest n) n root_sector → Can size (uses_in size shown n root_sector) (names_in size shown n root_sector) start → Lays size shown (catalog_at n)
  whole-laid n two sized l p c =
      let within = λ (s : ℕ) (i : In s (page_sectors (catalog_at n) ++ file_sectors (catalog_at n))). sectors-within n two p.2 c.free s i in
      record {
        root = root-is n;
        good = record { rises = rising_rises [] (names_in size shown n root_sector) c.rising; few = l; filled = p.1 };
        names = all_map (Sure size shown) (λ (e : Entry Key). good_name e.0 ≡ true) (names_in size shown n root_sector) (λ e h. h.0) p.2;
        pages = pages_laid shown (suc n) (laid size shown (suc n) root_sector) (λ s i. let b = sized s (within s (in_left s (page_sectors (catalog_at n)) _ i)).1 in omega arith) p.0;
        files = files_sure (names_in size shown n root_sector) p.2;
        once = occ-distinct (page_sectors (catalog_at n) ++ file_sectors (catalog_at n)) (λ k. sectors-once n two p.2 c.free k (all-occ n k p.2));
        within = within;
      }

  laid-whole : (n : ℕ) → Lays size shown (catalog_at n) → PageHolds size shown (lowest n) n root_sector × Can size (uses_in size shown n root_sector) (names_in size shown n root_sector) start
  laid-whole n h =
      let es = names_in size shown n root_sector in
      let sure = all_both (λ (e : Entry Key). good_name e.0 ≡ true) (λ (e : Entry Key). FileAt shown e.1 (extent_for e)) es h.names (sure_files es h.files) in
      let all = page_sectors (catalog_at n) ++ file_sectors (catalog_at n) in (
        (pages_asked shown (suc n) (laid size shown (suc n) root_sector) h.pages, h.good.filled, sure),
        record {
          free = λ k. free k (subst (λ (z : ℕ). z ≤ 1) (all-occ n k sure) (distinct-occ all h.once k)) (λ i. h.within k (occ-in k all (subst (λ (z : ℕ). 1 ≤ z) (sym (all-occ n k sure)) i)));
          rising = rises_rising [] es (names-over-none es h.names) h.good.rises;
        },
      )
    where
      free : (k : ℕ) → tick k root_sector + occ k (uses_in size shown n root_sector) ≤ 1 → (1 ≤ tick k root_sector + occ k (uses_in size shown n root_sector) → (1 ≤ k) × (k < size)) →
          (occ k (uses_in size shown n root_sector) ≡ 0) ⊎ ((occ k (uses_in size shown n root_sector) + (tick k root_sector + 0) ≤ 1) × (2 ≤ k) × (k < size))
      free k m w = go (cases_lt 0 (occ k (uses_in size shown n root_sector))) (eqb k root_sector) refl
        where
          go : (0 < occ k (uses_in size shown n root_sector)) ⊎ (occ k (uses_in size shown n root_sector) ≤ 0) → (b : Bool) → eqb k root_sector ≡ b →
              (occ k (uses_in size shown n root_sector) ≡ 0) ⊎ ((occ k (uses_in size shown n root_sector) + (tick k root_sector + 0) ≤ 1) × (2 ≤ k) × (k < size))
          go (inr z) b e = inl (omega arith)
          go (inl z) true e = let t : tick k root_sector ≡ 1 = ap (λ (b : Bool). cond b 1 0) e in absurd (omega arith)
          go (inl z) false e = let q = eqb-false k root_sector e in let v = w (omega arith) in let u : 2 ≤ k = apart k v.0 q in inr (omega arith, u, v.1)
            where
              apart : (k : ℕ) → 1 ≤ k → (k ≡ 1 → ⊥) → 2 ≤ k
              apart k l q = omega arith

  leaf-least : (fuel level s : ℕ) → level ≤ first_leaf size shown fuel level s
  unfolding first_leaf
  leaf-least zero level s = omega arith
  leaf-least (suc fuel) level s = go (eqb (word (shown s) first_at) 0) (leaf-least fuel (suc level) (word (shown s) first_at / address_step))
    where
      go : (b : Bool) → suc level ≤ first_leaf size shown fuel (suc level) (word (shown s) first_at / address_step) → level ≤ cond b level (first_leaf size shown fuel (suc level) (word (shown s) first_at / address_step))
      go true r = omega arith
      go false r = omega arith

  -- PASSED. What holds where all questions have a yes
  pub record Passed (n : ℕ) (st : Sofar) : Type 0 where
    pub fits : good_size size ≡ true
    pub level : leaf_level size shown ≡ suc n
    pub few : suc n ≤ most_levels
    pub pages : PageHolds size shown (lowest n) n root_sector
    pub can : Can size (uses_in size shown n root_sector) (names_in size shown n root_sector) start
    pub after : After shown (uses_in size shown n root_sector) (names_in size shown n root_sector) (names_in size shown n root_sector) start st

  pub size-two : good_size size ≡ true → 2 ≤ size
  size-two e = let a = leb-true 3 size (and_parts (leb 3 size) (leb size 16384) e).0 in omega arith

  pub passed : (st : Sofar) → asked size shown ≡ Ok st → Passed (leaf_level size shown - 1) st
  unfolding asked
  passed st e =
      let deep = leaf_level size shown in
      let a = ok-split (ask (good_size size) BadSize) (ask_page size shown deep 5 1 root_sector) start st e in
      let b = size-asked (good_size size) a.0 a.1 in
      go (subst (λ (z : Sofar). ask_page size shown deep 5 1 root_sector z ≡ Ok st) (sym b.1) a.2) b.0 (cases_lt most_levels deep)
    where
      size-asked : (b : Bool) (s : Sofar) → ask b BadSize start ≡ Ok s → (b ≡ true) × (start ≡ s)
      size-asked true s h = (refl, cc)
      size-asked false s h = cc

      go : ask_page size shown (leaf_level size shown) 5 1 root_sector start ≡ Ok st → good_size size ≡ true → (most_levels < leaf_level size shown) ⊎ (leaf_level size shown ≤ most_levels) → Passed (leaf_level size shown - 1) st
      go h g (inl q) = absurd (dead size shown (leaf_level size shown) 5 1 root_sector start st (inr q) h)
      go h g (inr q) =
          let deep = leaf_level size shown in
          let n = deep - 1 in
          let least = leaf-least most_levels 1 root_sector in
          let m = (means-page size shown deep q n 5 1 (omega arith) (omega arith) (omega arith) root_sector).sound start st h in
          record { fits = g; level = omega arith; few = omega arith; pages = m.0; can = m.1; after = m.2 }

  pub passes : (n : ℕ) → good_size size ≡ true → leaf_level size shown ≡ suc n → suc n ≤ most_levels → PageHolds size shown (lowest n) n root_sector →
      Can size (uses_in size shown n root_sector) (names_in size shown n root_sector) start → (st : Sofar) × (asked size shown ≡ Ok st)
  unfolding asked
  passes n g e l p c =
      let deep = leaf_level size shown in
      let m = (means-page size shown deep (omega arith) n 5 1 (omega arith) (omega arith) (omega arith) root_sector).complete start p c in
      (m.0, ap (λ (b : Bool). onward (ask_page size shown deep 5 1 root_sector) (ask b BadSize start)) g ∙ m.1)

  found-laid : (c : Catalog) → Sized size shown → found size shown ≡ Ok c → (good_size size ≡ true) × Lays size shown c
  unfolding found
  found-laid c sized h = go (asked size shown) refl h
    where
      go : (r : Result Sofar LayoutFault) → asked size shown ≡ r → given size shown (catalog size shown) r ≡ Ok c → (good_size size ≡ true) × Lays size shown c
      go (Err x) e q = cc
      go (Ok st) e q =
          let n = leaf_level size shown - 1 in
          let p = passed st e in
          let w = whole-laid n (size-two p.fits) sized p.few p.pages p.can in
          let i : catalog size shown ≡ c = cc in
          (p.fits, subst (λ (z : Catalog). Lays size shown z) (sym catalog-is ∙ i) w)

  -- DECODING. What is laid is what the addresses lead to
  abbrev GoodNamed : Entry Key → Type 0
  GoodNamed e = good_name e.0 ≡ true

  entry-eq : (e : Entry Key) (k : Key) (v : ℕ) → e.0 ≡ k → e.1 ≡ v → e ≡ (k, v)
  entry-eq e k v p q = rw (← p, ← q) refl

  items_are : (n : ℕ) (c : Contents) → ((t : Laid n) (w : ℕ) → w ≡ under n t → LaidAt shown n t → All GoodNamed (flat Key n (bare n t)) → t ≡ laid size shown n (w / address_step)) →
      (xs : List (Item Key (Laid n))) (i : ℕ) → ItemsAt n c i xs → Below (LaidAt shown n) xs → All GoodNamed (flat_rest (flat Key n) (map_rest (bare n) xs)) → xs ≡ map (item_in size shown n c) (range i (length xs))
  unfolding range
  items_are n c r [] i h b a = refl
  items_are n c r (item e d ∷ xs) i h b a =
      let es = flat Key n (bare n d) in
      let ds = flat_rest (flat Key n) (map_rest (bare n) xs) in
      let k : name_in (part c (entry_at i) name_size) ≡ e.0 = ap name_in h.0 ∙ named_again e.0 a.0 in
      let v = sector-of (word c (entry_at i + file_at)) e.1 h.1 in
      let t = r d (word c (entry_at i + below_at)) h.2 b.0 (all_left GoodNamed es ds a.1) in
      ap₂ ◌∷◌ (ap₂ item (entry-eq e _ _ (sym k) (sym v)) t) (items_are n c r xs (suc i) h.3 b.1 (all_right GoodNamed es ds a.1))

  tree_is : (n : ℕ) (t : Laid n) (w : ℕ) → w ≡ under n t → LaidAt shown n t → All GoodNamed (flat Key n (bare n t)) → t ≡ laid size shown n (w / address_step)
  unfolding laid
  tree_is zero t w e h a = refl
  tree_is (suc n) t w e h a = go t.0 t.1 h a (λ d v p q s. tree_is n d v p q s) ∙ ap (laid size shown (suc n)) (sym (sector-of w t.0 e))
    where
      go : (s : ℕ) (p : Page Key (Laid n)) → PageAt n (shown s) p × Children (LaidAt shown n) p → All GoodNamed (flat_page (flat Key n) (map_page (bare n) p)) →
          ((d : Laid n) (w : ℕ) → w ≡ under n d → LaidAt shown n d → All GoodNamed (flat Key n (bare n d)) → d ≡ laid size shown n (w / address_step)) →
          ◌≡◌ {A = ℕ × Page Key (Laid n)} (s, p) (laid size shown (suc n) s)
      go s (page d xs) h a r =
          let es = flat Key n (bare n d) in
          let ds = flat_rest (flat Key n) (map_rest (bare n) xs) in
          let x = r d (word (shown s) first_at) h.0.2 h.1.0 (all_left GoodNamed es ds a) in
          let y = items_are n (shown s) r xs 0 h.0.4 h.1.1 (all_right GoodNamed es ds a) ∙ ap (λ (m : ℕ). map (item_in size shown n (shown s)) (range 0 m)) (sym h.0.1) in
          ap (λ (p : Page Key (Laid n)). (s, p)) (ap₂ page x y)

  files_are : (es : List (Entry Key)) (xs : List Extent) → FilesAt shown es xs → xs ≡ map extent_for es
  files_are [] [] h = refl
  files_are [] (x ∷ xs) h = absurd h
  files_are (e ∷ es) [] h = absurd h
  files_are (e ∷ es) (x ∷ xs) h = ap₂ ◌∷◌ (extent-of size shown e.1 x h.0) (files_are es xs h.1)

  not-none : (w x : ℕ) → w ≡ address x → 1 ≤ x → w ≡ 0 → ⊥
  not-none w x e l z = omega arith

  leaf_at : (n fuel level : ℕ) (t : Laid (suc n)) → LaidAt shown (suc n) t → ((s : ℕ) → In s (sectors_laid (suc n) t) → 1 ≤ s) → n < fuel → first_leaf size shown fuel level t.0 ≡ level + n
  unfolding first_leaf
  leaf_at n zero level t h w u = absurd (omega arith)
  leaf_at zero (suc fuel) level t h w u = go t.0 t.1 h
    where
      go : (s : ℕ) (p : Page Key (Laid zero)) → PageAt zero (shown s) p × Children (LaidAt shown zero) p → first_leaf size shown (suc fuel) level s ≡ level + 0
      go s (page d xs) h = rw (eq-eqb (word (shown s) first_at) 0 h.0.2) (omega arith)
  leaf_at (suc n) (suc fuel) level t h w u = go t.0 t.1 h (λ s i. w s (inr i)) (λ d g v. leaf_at n fuel (suc level) d g v (omega arith))
    where
      go : (s : ℕ) (p : Page Key (Laid (suc n))) → PageAt (suc n) (shown s) p × Children (LaidAt shown (suc n)) p → ((x : ℕ) → In x (sectors_page (sectors_laid (suc n)) p) → 1 ≤ x) →
          ((d : Laid (suc n)) → LaidAt shown (suc n) d → ((x : ℕ) → In x (sectors_laid (suc n) d) → 1 ≤ x) → first_leaf size shown fuel (suc level) d.0 ≡ suc level + n) →
          first_leaf size shown (suc fuel) level s ≡ level + suc n
      go s (page d xs) h w r =
          let one = w d.0 (inl refl) in
          let x = r d h.1.0 (λ y i. w y (in_left y (sectors_laid (suc n) d) _ i)) in
          let e : first_leaf size shown fuel (suc level) (word (shown s) first_at / address_step) ≡ first_leaf size shown fuel (suc level) d.0 =
          ap (λ (z : ℕ). first_leaf size shown fuel (suc level) z) (sector-of (word (shown s) first_at) d.0 h.0.2) in
          let f = not-none (word (shown s) first_at) d.0 h.0.2 one in
          rw (ne_eqb (word (shown s) first_at) 0 f) (e ∙ (x ∙ omega arith))

  catalog-eq : (c : Catalog) (r : Laid (suc c.over)) → c.root ≡ r → c.files ≡ map extent_for (entries c) →
      c ≡ record { over = c.over; root = r; files = map extent_for (flat Key (suc c.over) (bare (suc c.over) r)) }
  catalog-eq c r e f = subst (λ (z : Laid (suc c.over)). c ≡ record { over = c.over; root = z; files = map extent_for (flat Key (suc c.over) (bare (suc c.over) z)) }) e
      (ap (λ (z : List Extent). record { over = c.over; root = c.root; files = z }) f)

  -- a laid catalog is what the addresses lead to, and its leaves are on the first leaf's level
  pub laid-is : (c : Catalog) → Lays size shown c → (c ≡ catalog_at c.over) × (leaf_level size shown ≡ suc c.over)
  laid-is c h =
      let n = c.over in
      let w : address root_sector ≡ under (suc n) c.root = ap address (sym h.root) in
      let r : c.root ≡ laid size shown (suc n) root_sector = tree_is (suc n) c.root (address root_sector) w h.pages h.names in
      let e : c ≡ catalog_at n = catalog-eq c (laid size shown (suc n) root_sector) r (files_are (entries c) c.files h.files) in
      let few = h.good.few in
      let l : leaf_level size shown ≡ 1 + n =
      ap (λ (z : ℕ). first_leaf size shown most_levels 1 z) (sym h.root)
      ∙ leaf_at n most_levels 1 c.root h.pages (λ s i. (h.within s (in_left s (page_sectors c) (file_sectors c) i)).0) (omega arith) in
      (e, omega arith)

  laid-found : (c : Catalog) → good_size size ≡ true → Lays size shown c → found size shown ≡ Ok c
  unfolding found
  laid-found c g h =
      let n = c.over in
      let i = laid-is c h in
      let p = laid-whole n (subst (λ (z : Catalog). Lays size shown z) i.0 h) in
      let m = passes n g i.1 h.good.few p.0 p.1 in
      let o : leaf_level size shown - 1 ≡ n = omega (arith, i.1) in
      ap (given size shown (catalog size shown)) m.1 ∙ ap Ok (catalog-is ∙ (ap catalog_at o ∙ sym i.0))

pub found-laid-both : FoundLaid
found-laid-both size shown c sized = (λ e. found-laid size shown c sized e, λ h. laid-found size shown c h.0 h.1)

pub unique : Unique
unique size shown c d sized g h k =
    let a = laid-found size shown c g h in
    let b = laid-found size shown d g k in
    cc

pub refused-none : RefusedNone
refused-none size shown c r sized g e h = let a = laid-found size shown c g h in let z : ◌≡◌ {A = ℕ} 0 1 = cc in omega arith

pub found-frame : FoundFrame
found-frame size shown shown' c sized sized' e h =
    let l = found-laid size shown c sized h in
    laid-found size shown' c l.0 (frame size shown shown' c e l.1)
