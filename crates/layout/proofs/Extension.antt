-- Extension tables.
use Rattle.std.proofs.Common.{◌≡◌, ℕ, ◌+◌, ◌*◌, ◌^◌, ◌<◌, ◌≤◌, List, [], ◌++◌, length, sym, refl, ap, ◌∙◌, append-nil, arith}
use Rattle.std.specs.List.{AllByRecursion}
use Rattle.std.proofs.lemmas.List.{drop_all}
use Rattle.std.proofs.lemmas.Bool.Decides.{nat_tests}
use Rattle.layout.specs.declared.table.Table.{Table}
use Rattle.layout.specs.Words.{Contents, Bytes, sector_size, words, stored_all}
use Rattle.numbers.specs.Lengths.{near_sectors, table_sectors, tables}
use Rattle.layout.specs.Headers.{numbers, addresses_in}
use Rattle.layout.specs.Tables.{table_bytes, table_in, table_place, ExtensionTables}
use Rattle.layout.proofs.Writing.{words-whole}
use Rattle.layout.proofs.Reading.{addresses-at, numbers-in}

table-back : (t : Table) → length t.sectors ≡ table_sectors → AllByRecursion (λ w. w < 2 ^ 32) (numbers t.sectors) → table_in (table_bytes t) ≡ t
table-back t l h =
    let e : t.sectors ≡ addresses_in (table_bytes t) 0 table_sectors =
    addresses-at [] [] t.sectors 0 table_sectors refl l h ∙ ap (λ (c : Contents). addresses_in c 0 table_sectors) (append-nil (table_bytes t)) in
    λ i. record { sectors = sym e i }

table-only : (c : Contents) → length c ≡ sector_size → Bytes c → table_bytes (table_in c) ≡ c
table-only c l b =
    ap stored_all (numbers-in (words c 0 table_sectors)) ∙ sym (words-whole c 0 table_sectors b (omega arith) ∙ ap (λ (t : List ℕ). stored_all (words c 0 table_sectors) ++ t) (drop_all sector_size c (omega arith)) ∙ append-nil (stored_all (words c 0 table_sectors)))

table-places : (i a : ℕ) → near_sectors ≤ i → i ≤ a → (near_sectors + table_sectors * (table_place i).0 + (table_place i).1 ≡ i) × ((table_place i).1 < table_sectors) × ((table_place i).0 < tables a)
table-places i a l h =
    (omega arith, omega arith, grind (arith, nat_tests))

pub extension-tables : ExtensionTables
extension-tables = record { back = table-back; only = table-only; places = table-places }
