-- The kinds of entries, as the code reads them.
use Rattle.totem_cert.proofs.Common.{◌≡◌, ℕ, List, map, option_map, get_or, slice_get, Some, ◌∙◌, ap, slice_get-map, get_or_from_slice_get, Entry, Log, Table, IsTable, kind_of, kinds_in}
use Rattle.totem_table.specs.declared.kind.Kind.{Kind}

-- the kind at i is that of the entry at i
pub kind_read : (entries : List Entry) (kinds : List Kind) (i : ℕ) (entry : Entry) (kind : Kind) → kinds ≡ map kind_of entries → slice_get entries i ≡ Some entry → get_or kinds i kind ≡ kind_of entry
kind_read entries kinds i entry kind are at = get_or_from_slice_get kinds i (kind_of entry) kind (rw are (slice_get-map kind_of entries i ∙ ap (option_map kind_of) at))

-- the kinds of a log
pub table_kinds : (run : List Log) (table : Table) (k : ℕ) (log : Log) (entries : List Entry) (kinds read : List Kind) → IsTable run table → slice_get run k ≡ Some log → entries ≡ log.entries → read ≡ get_or table.kinds.items k read → kinds ≡ read
    → kinds ≡ map kind_of entries
table_kinds run table k log entries kinds read is log_at entries_is read_is kinds_is =
    let there : slice_get table.kinds.items k ≡ Some (kinds_in log) = rw is.kinds (slice_get-map kinds_in run k ∙ ap (option_map kinds_in) log_at) in
    rw entries_is (kinds_is ∙ read_is ∙ get_or_from_slice_get table.kinds.items k (kinds_in log) read there)
