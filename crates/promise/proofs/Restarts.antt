-- Formats and Starts of the small store, each as it is promised.
use Rattle.std.proofs.Common.{◌≡◌, ℕ, Bool, false, [], ◌∷◌, sym, refl, subst, inl, inr, Ok}
use Rattle.layout.specs.Words.{blank}
use Rattle.disk.specs.Meaning.{Contents, Whole, Sound}
use Rattle.catalog.specs.Laws.{Sized}
use Rattle.catalog.specs.Questions.{asked, found}
use Rattle.catalog.specs.declared.fault.LayoutFault.TheVariants.{BadSize}
use Rattle.catalog.proofs.Found.{found-laid-both}
use Rattle.promise.specs.declared.fault.FileFault.{FileFault}
use Rattle.promise.specs.Faults.{by_disk, by_layout}
use Rattle.promise.specs.Table.{Done, No, waits, formatted, started, Format, Start}
use Rattle.promise.specs.Calls.{Holds, Formatted, Starts}
use Rattle.promise.specs.Examples.{lost}
use Rattle.promise.specs.Witnesses.{sector_count, disk_of, contents, hall_sector, first_bytes, hall_entry, none_open, free_after, formatted_store, closed_store, lost_disk, lost_store, waiting, forgotten_store, off, small_disk, Kept}
use Rattle.promise.proofs.StartProper.{started-proper}
use Rattle.disk.proofs.Images.{only}
use Rattle.promise.proofs.Turning.{false-true}
use Rattle.promise.proofs.Cards.{root-empty, root-hall, hall-long, contents-long, hall-bytes, empty_catalog, lays-empty, hall_catalog, lays-hall, empty-whole, begun-whole, closed-whole}
use Rattle.promise.proofs.Stores.{over-empty, over-hall, formatted-holds}

no-done : {A : Type 0} (r : FileFault) → No r ≡ Done → A
no-done r e = cc

done-no : {A : Type 0} (r : FileFault) → Done ≡ No r → A
done-no r e = cc

-- FORMAT
pub format-done : (calm : Bool) → Formatted Kept (waiting (disk_of calm (λ n. blank))) Done (formatted_store calm)
format-done calm = record {
  turns = λ t. (formatted sector_count, Format.done refl, refl, λ _. formatted-holds calm);
  root = λ _. (refl, λ k x l i. only i);
  small = λ e. false-true (sym e);
  answered = λ _. record { lost = (λ e. false-true e, λ e. false-true (sym e)); accepts = λ _ _. refl; calm = λ e. e; size = refl };
  dead = λ e. false-true (sym e);
  size = refl;
  begins = λ _. tt;
  keeps = λ l r k e. tt;
}

pub format-lost : Formatted Kept lost_store (No (by_disk lost)) lost_store
format-lost = record {
  turns = λ t. (waits t, Format.gone lost refl refl, refl, λ e. false-true e);
  root = λ e. no-done (by_disk lost) e;
  small = λ e. false-true (sym e);
  answered = λ _. record { lost = (λ _. refl, λ _. refl); accepts = λ e _. false-true e; calm = λ e. e; size = refl };
  dead = λ e. e;
  size = refl;
  begins = λ _. tt;
  keeps = λ l r k e. tt;
}

pub format-small : Formatted Kept (waiting small_disk) (No (by_layout BadSize)) (waiting small_disk)
format-small = record {
  turns = λ t. (waits t, Format.refused refl, refl, λ e. false-true e);
  root = λ e. no-done (by_layout BadSize) e;
  small = λ _. refl;
  answered = λ e. false-true e;
  dead = λ e. e;
  size = refl;
  begins = λ _. tt;
  keeps = λ l r k e. tt;
}

-- DISKS that are settled
settled-sound : (calm : Bool) (shown : ℕ → Contents) → ((k : ℕ) → Whole (shown k)) → Sound (disk_of calm shown)
settled-sound calm shown w = record { shows = λ _ k l. inl refl; some = λ k l. (shown k, inl refl); whole = λ k x l i. subst Whole (sym (only i)) (w k) }

-- START
pub start-done : (calm : Bool) → Starts Kept (waiting (off (closed_store calm).disk)) Done (closed_store calm)
start-done calm =
    let shown = contents hall_entry (hall_sector 5 first_bytes) in
    let z : Sized sector_count shown = λ s l. contents-long hall_entry (hall_sector 5 first_bytes) root-hall.1 hall-long s in
    let f : found sector_count shown ≡ Ok hall_catalog = (found-laid-both sector_count shown hall_catalog z).1 (refl, lays-hall) in
    let t' = started sector_count shown hall_catalog in
    let k : Holds (closed_store calm) t' = over-hall calm none_open free_after [] t'.files refl (sym (hall-bytes shown refl)) tt (λ y i. absurd i) refl refl (started-proper sector_count shown hall_catalog refl lays-hall) in
    record {
      turns = λ t. (t', Start.done hall_catalog f, refl, λ _. k);
      small = λ e. false-true (sym e);
      answered = λ _. record { lost = (λ e. false-true e, λ e. false-true (sym e)); accepts = λ _ _. refl; calm = λ e. e; size = refl };
      size = refl;
      fewer = λ k x l i. i;
      sound = λ _. settled-sound calm shown closed-whole;
      picked = λ _ _. (λ k x l i. only i, λ n l. inl refl);
      keeps = λ l r k e. tt;
      goes_on = λ l l' c k e r g. tt;
    }

pub start-forgets : Starts Kept lost_store Done forgotten_store
start-forgets =
    let shown = contents [] (hall_sector 5 first_bytes) in
    let z : Sized sector_count shown = λ s l. contents-long [] (hall_sector 5 first_bytes) root-empty.1 hall-long s in
    let f : found sector_count shown ≡ Ok empty_catalog = (found-laid-both sector_count shown empty_catalog z).1 (refl, lays-empty (hall_sector 5 first_bytes)) in
    let t' = started sector_count shown empty_catalog in
    let k : Holds forgotten_store t' = over-empty false none_open (2 ∷ free_after) [] t'.files (hall_sector 5 first_bytes) tt refl refl (started-proper sector_count shown empty_catalog refl (lays-empty (hall_sector 5 first_bytes))) in
    record {
      turns = λ t. (t', Start.done empty_catalog f, refl, λ _. k);
      small = λ e. false-true (sym e);
      answered = λ _. record { lost = (λ e. false-true e, λ e. false-true (sym e)); accepts = λ _ _. refl; calm = λ e. e; size = refl };
      size = refl;
      fewer = λ k x l i. inr i;
      sound = λ _. settled-sound false shown begun-whole;
      picked = λ _ _. (λ k x l i. only i, λ n l. inr (inl refl));
      keeps = λ l r k e. tt;
      goes_on = λ l l' c k e r g. tt;
    }

lost-sound : Sound lost_disk
lost-sound = record { shows = λ e. false-true e; some = λ k l. (contents [] blank k, inl refl); whole = λ k x l i. elim i [ inl e ↦ subst Whole (sym e) (empty-whole k) | inr j ↦ subst Whole (sym (only j)) (begun-whole k) ] }

pub start-lost : Starts Kept lost_store (No (by_disk lost)) (waiting lost_disk)
start-lost = record {
  turns = λ t. (waits t, Start.gone lost refl refl, refl, λ e. false-true e);
  small = λ e. false-true (sym e);
  answered = λ _. record { lost = (λ _. refl, λ _. refl); accepts = λ e _. false-true e; calm = λ e. e; size = refl };
  size = refl;
  fewer = λ k x l i. i;
  sound = λ _. lost-sound;
  picked = λ _ e. false-true e;
  keeps = λ l r k e. tt;
  goes_on = λ l l' c k e r g. tt;
}

pub start-small : Starts Kept (waiting small_disk) (No (by_layout BadSize)) (waiting small_disk)
unfolding found asked
start-small = record {
  turns = λ t. (waits t, Start.bad BadSize refl, refl, λ e. false-true e);
  small = λ _. refl;
  answered = λ e. false-true e;
  size = refl;
  fewer = λ k x l i. i;
  sound = λ e. false-true e;
  picked = λ e _. false-true e;
  keeps = λ l r k e. tt;
  goes_on = λ l l' c k e r g. tt;
}
