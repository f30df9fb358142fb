-- A file's questions: when they go on, and which sectors they meet.
use Rattle.std.proofs.Common.{◌≡◌, ℕ, zero, suc, ◌+◌, ◌-◌, ◌*◌, ◌/◌, ◌%◌, ◌<◌, ◌≤◌, Bool, true, false, cond, eqb, ltb, leb, ◌⊎◌, List, [], ◌∷◌, ◌++◌, map, length, get_or, sym, refl, ap, ◌∙◌, subst, inl, inr, arith}
use Rattle.std.proofs.lemmas.List.{length-map, get_or_past, ext_get_or}
use Rattle.std.proofs.lemmas.Bool.{eqb-true, eq-eqb, leb-true, leb-false, ltb-true, ltb-false, le-leb, lt-leb, lt-ltb, le-ltb, cases_lt}
use Rattle.std.proofs.lemmas.Bool.Decides.{nat_tests}
use Rattle.numbers.specs.Lengths.{last_sector, last_bytes, length_of, good_end, tables, longest, near_sectors, most_tables, table_sectors, last_of_longest}
use Rattle.numbers.proofs.Sizes.{only, end-parts, most, back, good}
use Rattle.numbers.specs.Sectors.{address_step, address}
use Rattle.layout.specs.Words.{word_size, word}
use Rattle.layout.specs.Headers.{file_mark, mark_at, last_at, used_at, tables_at, near_at}
use Rattle.disk.specs.Meaning.{Contents}
use Rattle.catalog.specs.declared.fault.LayoutFault.TheVariants.{BadMark, BadLength, BadAddress}
use Rattle.catalog.specs.Catalogs.{Extent, range}
use Rattle.catalog.specs.Lays.{FileAt}
use Rattle.catalog.specs.Questions.{Step, done, each, at, link, ask_table, ask_file, extent}
use Rattle.catalog.proofs.Counts.{tick, occ, occ-append, spread, length-range, range_at, sum_c, sum_more, sum-split, sum_same, sum-zero, sum-plus, sum-blocks, sum-until, occ-map, occ-spread}
use Rattle.catalog.proofs.Means.{Links, Due, Means, means-iff, means-seq, means-ask, means-done, means-either, means-due, means-range}

-- NUMBERS
pub tables-over : (a k : ℕ) → near_sectors + table_sectors * k ≤ a → k < tables a
tables-over a k h = rw (le-ltb a near_sectors (omega arith)) (omega arith)

pub tables-under : (a k : ℕ) → k < tables a → near_sectors + table_sectors * k ≤ a
tables-under a k h = grind (arith, nat_tests)

tables-past : (a k : ℕ) → tables a ≤ k → a < near_sectors + table_sectors * k
tables-past a k h = grind (arith, nat_tests)

pub tables_most : (a : ℕ) → a ≤ last_of_longest → tables a ≤ most_tables
tables_most a h = grind (arith, nat_tests)

-- the end of a file of a length that fits
pub end_fits : (l a b : ℕ) → l ≤ longest → a ≡ last_sector l → b ≡ last_bytes l → (good_end a b ≡ true) × (a ≤ last_of_longest)
end_fits l a b f p q = (rw (p, q) (good l f), subst (λ (z : ℕ). z ≤ last_of_longest) (sym p) (most l f).0)

pub end-again : (l a b : ℕ) → a ≡ last_sector l → b ≡ last_bytes l → length_of a b ≡ l
end-again l a b p q = rw (p, q) (back l)

-- LISTS MADE FROM NUMBERS
pub at_range : {A : Type 0} (g : ℕ → A) (n i : ℕ) (d : A) → i < n → get_or (map g (range 0 n)) i d ≡ g i
at_range g n i d h = range_at g 0 n i d h ∙ ap g (omega arith)

pub length-made : {A : Type 0} (g : ℕ → A) (n : ℕ) → length (map g (range 0 n)) ≡ n
length-made g n = length-map (range 0 n) g ∙ length-range 0 n

past-range : (g : ℕ → ℕ) (n i : ℕ) → n ≤ i → get_or (map g (range 0 n)) i 0 ≡ 0
past-range g n i h = get_or_past (map g (range 0 n)) i 0 (rw (length-made g n) h)

made-address : (g : ℕ → ℕ) (n k w : ℕ) → (k < n → w ≡ address (g k)) → (n ≤ k → w ≡ 0) → w ≡ address (get_or (map g (range 0 n)) k 0)
made-address g n k w p q = go (cases_lt k n)
  where
    go : (k < n) ⊎ (n ≤ k) → w ≡ address (get_or (map g (range 0 n)) k 0)
    go (inl h) = p h ∙ ap address (sym (at_range g n k 0 h))
    go (inr h) = q h ∙ ap address (sym (past-range g n k h))

links-on : (b : Bool) (w : ℕ) (P : ℕ → Type 0) → b ≡ true → Links b w P → (w ≡ address (w / address_step)) × P (w / address_step)
links-on b w P e h = subst (λ (z : Bool). Links z w P) e h

links-off : (b : Bool) (w : ℕ) (P : ℕ → Type 0) → b ≡ false → Links b w P → w ≡ 0
links-off b w P e h = subst (λ (z : Bool). Links z w P) e h

links-made : (b : Bool) (w : ℕ) (P : ℕ → Type 0) → (b ≡ true → (w ≡ address (w / address_step)) × P (w / address_step)) → (b ≡ false → w ≡ 0) → Links b w P
links-made true w P p q = p refl
links-made false w P p q = q refl

due-on : (b : Bool) (w : ℕ) → b ≡ true → Due b w → w ≡ address (w / address_step)
due-on b w e h = (subst (λ (z : Bool). Due z w) e h).0

due-made : (b : Bool) (w : ℕ) → (b ≡ true → w ≡ address (w / address_step)) → Due b w
due-made true w p = (p refl, tt)
due-made false w p = tt

pub sector-of : (w x : ℕ) → w ≡ address x → w / address_step ≡ x
sector-of w x e = omega arith

module _ (size : ℕ) (shown : ℕ → Contents) where
  abbrev tab : ℕ → ℕ → ℕ
  tab s k = word (shown s) (tables_at + word_size * k) / address_step

  abbrev sector_of_part : ℕ → ℕ → ℕ
  sector_of_part s i = cond (ltb i near_sectors) (word (shown s) (near_at + word_size * i))
      (word (shown (tab s ((i - near_sectors) / table_sectors))) (word_size * ((i - near_sectors) % table_sectors))) / address_step

  part-near : (s i : ℕ) → i < near_sectors → sector_of_part s i ≡ word (shown s) (near_at + word_size * i) / address_step
  part-near s i h = rw (lt-ltb i near_sectors h)

  part-far : (s k j : ℕ) → j < table_sectors → sector_of_part s (near_sectors + table_sectors * k + j) ≡ word (shown (tab s k)) (word_size * j) / address_step
  part-far s k j h =
      let p : (near_sectors + table_sectors * k + j - near_sectors) / table_sectors ≡ k = omega arith in
      let q : (near_sectors + table_sectors * k + j - near_sectors) % table_sectors ≡ j = omega arith in
      rw (le-ltb (near_sectors + table_sectors * k + j) near_sectors (omega arith)) (rw (p, q))

  abbrev TableAsked : ℕ → ℕ → ℕ → Type 0
  TableAsked a k t = (j : ℕ) → 0 ≤ j → j < 0 + table_sectors → Due (leb (near_sectors + table_sectors * k + j) a) (word (shown t) (word_size * j))

  abbrev table_uses : ℕ → ℕ → ℕ → List ℕ
  table_uses a k t = spread (λ (j : ℕ). cond (leb (near_sectors + table_sectors * k + j) a) (word (shown t) (word_size * j) / address_step ∷ []) []) 0 table_sectors

  means-table : (a k t : ℕ) → Means size shown (ask_table size shown a k t) (TableAsked a k t) (table_uses a k t) [] []
  unfolding ask_table
  means-table a k t = means-range size shown (λ (j : ℕ). cond (leb (near_sectors + table_sectors * k + j) a) (link size shown true t (word (shown t) (word_size * j)) (λ n. done)) done)
      (λ (j : ℕ). Due (leb (near_sectors + table_sectors * k + j) a) (word (shown t) (word_size * j)))
      (λ (j : ℕ). cond (leb (near_sectors + table_sectors * k + j) a) (word (shown t) (word_size * j) / address_step ∷ []) [])
      (λ (j : ℕ). means-due size shown t (word (shown t) (word_size * j)) (leb (near_sectors + table_sectors * k + j) a)) 0 table_sectors

  module _ (s : ℕ) where
    abbrev NearAsked : Type 0
    NearAsked = (i : ℕ) → 1 ≤ i → i < 1 + 63 → Links (leb i (word (shown s) last_at)) (word (shown s) (near_at + word_size * i)) (λ n. Unit {0})

    abbrev TabsAsked : Type 0
    TabsAsked = (k : ℕ) → 0 ≤ k → k < 0 + most_tables →
        Links (ltb k (tables (word (shown s) last_at))) (word (shown s) (tables_at + word_size * k)) (λ t. TableAsked (word (shown s) last_at) k t)

    abbrev near_uses : List ℕ
    near_uses = spread (λ (i : ℕ). cond (leb i (word (shown s) last_at)) (word (shown s) (near_at + word_size * i) / address_step ∷ []) []) 1 63

    abbrev tabs_uses : List ℕ
    tabs_uses = spread (λ (k : ℕ). cond (ltb k (tables (word (shown s) last_at))) (tab s k ∷ table_uses (word (shown s) last_at) k (tab s k)) []) 0 most_tables

    abbrev FileAsked : Type 0
    FileAsked = ((((eqb (word (shown s) mark_at) file_mark ≡ true) × (good_end (word (shown s) last_at) (word (shown s) used_at) ≡ true)) × (eqb (word (shown s) near_at) (address s) ≡ true)) × NearAsked) × TabsAsked

    means-asked : Means size shown (ask_file size shown s) FileAsked (near_uses ++ tabs_uses) [] []
    unfolding ask_file
    means-asked =
        let a = word (shown s) last_at in
        let m₁ = means-ask size shown (eqb (word (shown s) mark_at) file_mark) (BadMark (at s)) in
        let m₂ = means-ask size shown (good_end a (word (shown s) used_at)) (BadLength (at s)) in
        let m₃ = means-ask size shown (eqb (word (shown s) near_at) (address s)) (BadAddress (at s)) in
        let f₄ : ℕ → Step = λ i. link size shown (leb i a) s (word (shown s) (near_at + word_size * i)) (λ n. done) in
        let f₅ : ℕ → Step = λ k. link size shown (ltb k (tables a)) s (word (shown s) (tables_at + word_size * k)) (ask_table size shown a k) in
        let m₄ : Means size shown (each f₄ (range 1 63)) NearAsked near_uses [] [] =
        means-range size shown f₄ (λ i. Links (leb i a) (word (shown s) (near_at + word_size * i)) (λ n. Unit {0})) (λ i. cond (leb i a) (word (shown s) (near_at + word_size * i) / address_step ∷ []) [])
        (λ i. means-either size shown s (word (shown s) (near_at + word_size * i)) (λ n. done) (λ n. Unit {0}) (λ n. []) (λ n. means-done size shown) (leb i a)) 1 63 in
        let m₅ : Means size shown (each f₅ (range 0 most_tables)) TabsAsked tabs_uses [] [] =
        means-range size shown f₅ (λ k. Links (ltb k (tables a)) (word (shown s) (tables_at + word_size * k)) (λ t. TableAsked a k t)) (λ k. cond (ltb k (tables a)) (tab s k ∷ table_uses a k (tab s k)) [])
        (λ k. means-either size shown s (word (shown s) (tables_at + word_size * k)) (ask_table size shown a k) (λ t. TableAsked a k t) (λ t. table_uses a k t) (λ t. means-table a k t) (ltb k (tables a))) 0 most_tables in
        means-seq size shown _ _ _ _ near_uses tabs_uses [] [] [] [] (means-seq size shown _ _ _ _ [] near_uses [] [] [] []
        (means-seq size shown _ _ _ _ [] [] [] [] [] [] (means-seq size shown _ _ _ _ [] [] [] [] [] [] m₁ m₂) m₃) m₄) m₅

    asked-laid : FileAsked → FileAt shown s (extent size shown s)
    unfolding extent
    asked-laid h =
        let c = shown s in
        let a = word (shown s) last_at in
        let b = word (shown s) used_at in
        let end = only a b h.0.0.0.1 in
        let a-most = (end-parts a b h.0.0.0.1).0 in
        let own = eqb-true (word c near_at) (address s) h.0.0.1 in
        record {
          fits = end.0;
          mark = eqb-true (word c mark_at) file_mark h.0.0.0.0;
          last = sym end.1;
          used = sym end.2;
          reaches = record {
            first = at_range (sector_of_part s) (1 + a) 0 0 (omega arith) ∙ sector-of (word c near_at) s own;
            parts = length-made (sector_of_part s) (1 + a) ∙ ap (λ (z : ℕ). 1 + z) (sym end.1);
            tabs = length-made (tab s) (tables a) ∙ ap tables (sym end.1);
            extensions = λ k l. made-address (tab s) (tables a) k (word c (tables_at + word_size * k))
                (λ q. (links-on (ltb k (tables a)) (word c (tables_at + word_size * k)) (λ t. TableAsked a k t) (lt-ltb k (tables a) q) (h.1 k (omega arith) (omega arith))).0)
                (λ q. links-off (ltb k (tables a)) (word c (tables_at + word_size * k)) (λ t. TableAsked a k t) (le-ltb k (tables a) q) (h.1 k (omega arith) (omega arith)));
            near = λ i l. made-address (sector_of_part s) (1 + a) i (word c (near_at + word_size * i))
                (λ q. near-in h own i l q ∙ ap address (sym (part-near s i l)))
                (λ q. links-off (leb i a) (word c (near_at + word_size * i)) (λ n. Unit {0}) (lt-leb i a (omega arith)) (h.0.1 i (omega arith) l));
            far = λ k j l m. far-in h a-most k j l (subst (λ (z : ℕ). near_sectors + table_sectors * k + j < z) (length-made (sector_of_part s) (1 + a)) m);
          };
        }
      where
        near-in : FileAsked → word (shown s) near_at ≡ address s → (i : ℕ) → i < near_sectors → i < 1 + word (shown s) last_at →
            word (shown s) (near_at + word_size * i) ≡ address (word (shown s) (near_at + word_size * i) / address_step)
        near-in h own zero l q = own ∙ ap address (sym (sector-of (word (shown s) near_at) s own))
        near-in h own (suc i) l q = (links-on (leb (suc i) (word (shown s) last_at)) (word (shown s) (near_at + word_size * suc i)) (λ n. Unit {0}) (le-leb (suc i) _ (omega arith)) (h.0.1 (suc i) (omega arith) l)).0

        far-in : FileAsked → word (shown s) last_at ≤ last_of_longest → (k j : ℕ) → j < table_sectors → near_sectors + table_sectors * k + j < 1 + word (shown s) last_at →
            word (shown (get_or (map (tab s) (range 0 (tables (word (shown s) last_at)))) k 0)) (word_size * j)
            ≡ address (get_or (map (sector_of_part s) (range 0 (1 + word (shown s) last_at))) (near_sectors + table_sectors * k + j) 0)
        far-in h u k j l m =
            let a = word (shown s) last_at in
            let t = tables-over a k (omega arith) in
            let t₁ = tables_most a u in
            let d = (links-on (ltb k (tables a)) (word (shown s) (tables_at + word_size * k)) (λ t. TableAsked a k t) (lt-ltb k (tables a) t) (h.1 k (omega arith) (omega arith))).1 j (omega arith) (omega arith) in
            let e = due-on (leb (near_sectors + table_sectors * k + j) a) (word (shown (tab s k)) (word_size * j)) (le-leb (near_sectors + table_sectors * k + j) a (omega arith)) d in
            let x = at_range (tab s) (tables a) k 0 t in
            let y = at_range (sector_of_part s) (1 + a) (near_sectors + table_sectors * k + j) 0 m in
            ap (λ (z : ℕ). word (shown z) (word_size * j)) x ∙ (e ∙ ap address (sym (y ∙ part-far s k j l)))

    laid-asked : FileAt shown s (extent size shown s) → FileAsked
    unfolding extent
    laid-asked h =
        let c = shown s in
        let a = word (shown s) last_at in
        let b = word (shown s) used_at in
        let end = end_fits (length_of a b) a b h.fits h.last h.used in
        let near : (i : ℕ) → i < near_sectors → word c (near_at + word_size * i) ≡ address (get_or (map (sector_of_part s) (range 0 (1 + a))) i 0) = h.reaches.near in
        let exts : (k : ℕ) → k < most_tables → word c (tables_at + word_size * k) ≡ address (get_or (map (tab s) (range 0 (tables a))) k 0) = h.reaches.extensions in (
          (
            (
              (eq-eqb (word c mark_at) file_mark h.mark, end.0),
              eq-eqb (word c near_at) (address s) (near 0 (omega arith) ∙ ap address h.reaches.first),
            ),
            λ i l u. links-made (leb i a) (word c (near_at + word_size * i)) (λ n. Unit {0})
                (λ q. let v = leb-true i a q in (near i u ∙ ap address (at_range (sector_of_part s) (1 + a) i 0 (omega arith) ∙ part-near s i u), tt))
                (λ q. let v = leb-false i a q in near i u ∙ ap address (past-range (sector_of_part s) (1 + a) i (omega arith))),
          ),
          λ k l u. links-made (ltb k (tables a)) (word c (tables_at + word_size * k)) (λ t. TableAsked a k t)
              (λ q. let v = ltb-true k (tables a) q in (
                exts k (omega arith) ∙ ap address (at_range (tab s) (tables a) k 0 v),
                λ j l₁ u₁. due-made (leb (near_sectors + table_sectors * k + j) a) (word (shown (tab s k)) (word_size * j)) (λ r. far-out h k v j u₁ (leb-true (near_sectors + table_sectors * k + j) a r)),
              ))
              (λ q. let v = ltb-false k (tables a) q in exts k (omega arith) ∙ ap address (past-range (tab s) (tables a) k v)),
        )
      where
        far-out : FileAt shown s (extent size shown s) → (k : ℕ) → k < tables (word (shown s) last_at) → (j : ℕ) → j < 0 + table_sectors → near_sectors + table_sectors * k + j ≤ word (shown s) last_at →
            word (shown (tab s k)) (word_size * j) ≡ address (word (shown (tab s k)) (word_size * j) / address_step)
        far-out h k v j u r =
            let a = word (shown s) last_at in
            let x = at_range (tab s) (tables a) k 0 v in
            let y = at_range (sector_of_part s) (1 + a) (near_sectors + table_sectors * k + j) 0 (omega arith) in
            let f = h.reaches.far k j (omega arith) (subst (λ (z : ℕ). near_sectors + table_sectors * k + j < z) (sym (length-made (sector_of_part s) (1 + a))) (omega arith)) in
            sym (ap (λ (z : ℕ). word (shown z) (word_size * j)) x) ∙ (f ∙ ap address (y ∙ part-far s k j (omega arith)))

    -- the sectors met by a file's questions: all of its own but the first, in the order met
    unfoldable pub file_rest : List ℕ
    file_rest = near_uses ++ tabs_uses

    pub means-file : Means size shown (ask_file size shown s) (FileAt shown s (extent size shown s)) file_rest [] []
    unfolding file_rest
    means-file = means-iff (λ h. asked-laid h) (λ h. laid-asked h) means-asked

    -- each of its sectors once: the parts after the first, and the tables
    module _ (n : ℕ) where
      abbrev part_ticks : ℕ → ℕ
      part_ticks i = cond (ltb i (1 + word (shown s) last_at)) (tick n (sector_of_part s i)) 0

      abbrev tab_ticks : ℕ → ℕ
      tab_ticks k = cond (ltb k (tables (word (shown s) last_at))) (tick n (tab s k)) 0

      one_at : (a i x : ℕ) (b : ℕ) → x ≡ b → occ n (cond (leb i a) (x ∷ []) []) ≡ cond (ltb i (1 + a)) (tick n b) 0
      one_at a i x b e = go (leb i a) refl
        where
          go : (d : Bool) → leb i a ≡ d → occ n (cond d (x ∷ []) []) ≡ cond (ltb i (1 + a)) (tick n b) 0
          go true q = let v = leb-true i a q in rw (lt-ltb i (1 + a) (omega arith)) (rw e (omega arith))
          go false q = let v = leb-false i a q in rw (le-ltb i (1 + a) (omega arith)) refl

      near-sum : occ n near_uses ≡ sum_c part_ticks 1 63
      near-sum = occ-spread n _ 1 63 ∙ sum_same _ part_ticks 1 63 (λ i l u. one_at (word (shown s) last_at) i (word (shown s) (near_at + word_size * i) / address_step) (sector_of_part s i) (sym (part-near s i u)))

      table-sum : (k : ℕ) → occ n (table_uses (word (shown s) last_at) k (tab s k)) ≡ sum_c (λ j. part_ticks (near_sectors + table_sectors * k + j)) 0 table_sectors
      table-sum k = occ-spread n _ 0 table_sectors ∙ sum_same _ (λ j. part_ticks (near_sectors + table_sectors * k + j)) 0 table_sectors
          (λ j l u. one_at (word (shown s) last_at) (near_sectors + table_sectors * k + j) (word (shown (tab s k)) (word_size * j) / address_step) (sector_of_part s (near_sectors + table_sectors * k + j)) (sym (part-far s k j u)))

      tab-sum : (k : ℕ) → occ n (cond (ltb k (tables (word (shown s) last_at))) (tab s k ∷ table_uses (word (shown s) last_at) k (tab s k)) []) ≡ tab_ticks k + sum_c (λ j. part_ticks (near_sectors + table_sectors * k + j)) 0 table_sectors
      tab-sum k = go (ltb k (tables (word (shown s) last_at))) refl
        where
          go : (d : Bool) → ltb k (tables (word (shown s) last_at)) ≡ d →
              occ n (cond d (tab s k ∷ table_uses (word (shown s) last_at) k (tab s k)) []) ≡ cond d (tick n (tab s k)) 0 + sum_c (λ j. part_ticks (near_sectors + table_sectors * k + j)) 0 table_sectors
          go true q = ap (λ (z : ℕ). tick n (tab s k) + z) (table-sum k)
          go false q =
              let v = tables-past (word (shown s) last_at) k (ltb-false k _ q) in
              let z = sum-zero (λ j. part_ticks (near_sectors + table_sectors * k + j)) 0 table_sectors (λ j l u. rw (le-ltb (near_sectors + table_sectors * k + j) (1 + word (shown s) last_at) (omega arith))) in
              omega arith

      pub file-occ : FileAt shown s (extent size shown s) → tick n s + occ n file_rest ≡ occ n (extent size shown s).parts + occ n (extent size shown s).tabs
      unfolding extent file_rest
      file-occ h =
          let a = word (shown s) last_at in
          let b = word (shown s) used_at in
          let u = (end_fits (length_of a b) a b h.fits h.last h.used).1 in
          let first : sector_of_part s 0 ≡ s = sym (at_range (sector_of_part s) (1 + a) 0 0 (omega arith)) ∙ h.reaches.first in
          let e₁ = occ-append n near_uses tabs_uses in
          let e₂ = near-sum in
          let e₃ = occ-spread n (λ (k : ℕ). cond (ltb k (tables a)) (tab s k ∷ table_uses a k (tab s k)) []) 0 most_tables in
          let e₄ = sum_same (λ (k : ℕ). occ n (cond (ltb k (tables a)) (tab s k ∷ table_uses a k (tab s k)) [])) (λ k. tab_ticks k + sum_c (λ j. part_ticks (near_sectors + table_sectors * k + j)) 0 table_sectors) 0 most_tables (λ k l u. tab-sum k) in
          let e₅ = sum-plus tab_ticks (λ k. sum_c (λ j. part_ticks (near_sectors + table_sectors * k + j)) 0 table_sectors) 0 most_tables in
          let e₆ = sum-blocks part_ticks near_sectors table_sectors 0 most_tables in
          let e₇ = occ-map n (tab s) 0 (tables a) ∙ sum-until (λ k. tick n (tab s k)) (tables a) most_tables (tables_most a u) in
          let e₈ = occ-map n (sector_of_part s) 0 (1 + a) ∙ sum-until (λ i. tick n (sector_of_part s i)) (1 + a) 3136 (omega arith) in
          let e₉ = sum-split part_ticks 0 near_sectors 3072 in
          let f₁ = sum_more part_ticks 0 63 in
          let f₂ : part_ticks 0 ≡ tick n s = rw (lt-ltb 0 (1 + a) (omega arith)) (ap (tick n) first) in
          finish e₁ e₂ e₃ e₄ e₅ e₆ e₇ e₈ e₉ f₁ f₂
        where
          finish : {p q r t x y z z' o₁ o₂ o₃ g₀ k : ℕ} → z ≡ x + y → x ≡ p → y ≡ q → q ≡ r → r ≡ o₁ + o₂ → o₃ ≡ o₂ → t ≡ o₁ → k ≡ z' → z' ≡ g₀ + o₃ → g₀ ≡ part_ticks 0 + p → part_ticks 0 ≡ tick n s → tick n s + z ≡ k + t
          finish e₁ e₂ e₃ e₄ e₅ e₆ e₇ e₈ e₉ f₁ f₂ = omega arith

  extent-eq : (x : Extent) (l : ℕ) (p t : List ℕ) → x.long ≡ l → x.parts ≡ p → x.tabs ≡ t → x ≡ record { long = l; parts = p; tabs = t }
  extent-eq x l p t e f g = rw (← e, ← f, ← g) refl

  -- what is laid is what the addresses lead to
  pub extent-of : (s : ℕ) (x : Extent) → FileAt shown s x → x ≡ extent size shown s
  unfolding extent
  extent-of s x h =
      let a = word (shown s) last_at in
      let r = h.reaches in
      let u = (end_fits x.long a (word (shown s) used_at) h.fits h.last h.used).1 in
      let np : length x.parts ≡ 1 + a = r.parts ∙ ap (λ (z : ℕ). 1 + z) (sym h.last) in
      let nt : length x.tabs ≡ tables a = r.tabs ∙ ap tables (sym h.last) in
      let tm = tables_most a u in
      let tab_is : (k : ℕ) → k < most_tables → tab s k ≡ get_or x.tabs k 0 = λ k l. sector-of (word (shown s) (tables_at + word_size * k)) (get_or x.tabs k 0) (r.extensions k l) in
      extent-eq x (length_of a (word (shown s) used_at)) (map (sector_of_part s) (range 0 (1 + a))) (map (tab s) (range 0 (tables a)))
      (sym (end-again x.long a (word (shown s) used_at) h.last h.used))
      (ext_get_or 0 x.parts (map (sector_of_part s) (range 0 (1 + a))) (np ∙ sym (length-made (sector_of_part s) (1 + a)))
      (λ i l. let v : i < 1 + a = subst (λ (z : ℕ). i < z) np l in sym (at_range (sector_of_part s) (1 + a) i 0 v ∙ part_is i l (cases_lt i near_sectors) (λ k q. tab_is k (lower u k i v q)))))
      (ext_get_or 0 x.tabs (map (tab s) (range 0 (tables a))) (nt ∙ sym (length-made (tab s) (tables a)))
      (λ k l. let v : k < tables a = subst (λ (z : ℕ). k < z) nt l in sym (at_range (tab s) (tables a) k 0 v ∙ tab_is k (omega arith))))
    where
      lower : word (shown s) last_at ≤ last_of_longest → (k i : ℕ) → i < 1 + word (shown s) last_at → near_sectors + table_sectors * k ≤ i → k < most_tables
      lower u k i v q = omega arith

      part_is : (i : ℕ) → i < length x.parts → (i < near_sectors) ⊎ (near_sectors ≤ i) → ((k : ℕ) → near_sectors + table_sectors * k ≤ i → tab s k ≡ get_or x.tabs k 0) → sector_of_part s i ≡ get_or x.parts i 0
      part_is i l (inl q) t = part-near s i q ∙ sector-of (word (shown s) (near_at + word_size * i)) (get_or x.parts i 0) (h.reaches.near i q)
      part_is i l (inr q) t =
          let k = (i - near_sectors) / table_sectors in
          let j = (i - near_sectors) % table_sectors in
          let e : near_sectors + table_sectors * ((i - near_sectors) / table_sectors) + (i - near_sectors) % table_sectors ≡ i = omega arith in
          let f = h.reaches.far k j (omega arith) (omega arith) in
          let g : word (shown (tab s k)) (word_size * j) ≡ address (get_or x.parts i 0) =
          ap (λ (z : ℕ). word (shown z) (word_size * j)) (t k (omega arith)) ∙ (f ∙ ap (λ (z : ℕ). address (get_or x.parts z 0)) e) in
          rw (le-ltb i near_sectors q) (sector-of (word (shown (tab s k)) (word_size * j)) (get_or x.parts i 0) g)
