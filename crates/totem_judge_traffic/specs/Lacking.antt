-- Which logs lack something that others have.
use Rattle.std.specs.Prelude.{◌≡◌, ℕ, ◌<◌, slice_get, Some}
use Rattle.totem_judge_traffic.specs.declared.log_set.LogSet.{LogSet}
use Rattle.totem_judge_traffic.specs.declared.rows.Rows.{Rows}
use Rattle.totem_judge_traffic.specs.LogSets.{Has}

-- the row of a log has this other log
pub record RowHas (rows : Rows) (log other : ℕ) : Type 0 where
  pub row : LogSet
  pub stands : slice_get rows.rows log ≡ Some row
  pub has : Has row other

-- the rows have lost nothing
pub record KeepsRows (old new : Rows) : Type 0 where
  pub each : (log other : ℕ) → RowHas old log other → RowHas new log other

-- the rows of these logs, as far as they are before the end, have the logs that lack it
pub record AddsToRows (by lacking : LogSet) (end : ℕ) (rows : Rows) : Type 0 where
  pub each : (log other : ℕ) → log < end → Has by log → Has lacking other → RowHas rows log other

-- the row of the log has none of the others
pub record RowIsApart (rows : Rows) (log : ℕ) (others : LogSet) : Type 0 where
  pub none : (other : ℕ) → RowHas rows log other → Has others other → ⊥

-- no row of these logs, as far as they are before the end, has one of the others
pub record RowsAreApart (rows : Rows) (by others : LogSet) (end : ℕ) : Type 0 where
  pub none : (log other : ℕ) → log < end → Has by log → RowHas rows log other → Has others other → ⊥
