-- Serves private contracts: the rows as the code looks them up, by the command byte.
use Rattle.std.specs.Prelude.{ℕ, cond, List, eqb, get_or, Option, None}
use Rattle.command.specs.declared.Command.{Command}
use Rattle.command.specs.declared.Command.TheVariants.{SetAddress, LoadTrajectory, StopMotor}
use Rattle.codec.specs.declared.reading.Readings.{Readings}
use Rattle.codec.specs.Reading.{if_counted, ranged, place_of, load_count, stop_count, motion_of, stop_of, gained, shared_rows, gate_rows, drive_rows, or_else}

-- both kinds read alike
abbrev pub alike_of : Option Command → Readings
alike_of r = record { gate = r; drive = r }

-- what both read: the first data bytes s are enough for all but a drive's own rows
unfoldable pub listed_of : ℕ → ℕ → List ℕ → List ℕ → Readings
listed_of k n s d = record { gate = or_else (shared_rows k n s) (gate_rows k n s); drive = or_else (shared_rows k n s) (drive_rows k n d) }

-- Set Address, of its two data bytes
abbrev pub placing_of : ℕ → ℕ → Option Command
placing_of a g = ranged (SetAddress (place_of a g))

-- a drive's commands that have data bytes, n of them
abbrev pub loading_of : ℕ → List ℕ → Option Command
loading_of n d = if_counted n (load_count (get_or d 0 0)) (ranged (LoadTrajectory (motion_of d)))

abbrev pub gaining_of : ℕ → List ℕ → Option Command
gaining_of n d = if_counted n 14 (gained d)

abbrev pub stopping_of : ℕ → List ℕ → Option Command
stopping_of n d = if_counted n (stop_count (get_or d 0 0)) (ranged (StopMotor (stop_of d)))

-- their rows
unfoldable pub wide_rows : ℕ → ℕ → List ℕ → Option Command
wide_rows k n d =
    cond (eqb k 0x4) (loading_of n d)
    (cond (eqb k 0x6) (gaining_of n d)
    (cond (eqb k 0x7) (stopping_of n d)
    None))
