-- Document 02, request 6: the LS-173AP's own commands by number and data bytes, before anyone looks whether their values are of their ranges.
use Rattle.std.specs.Prelude.{ℕ, cond, List, eqb, length, get_or, Option, Some, None}
use Rattle.command.specs.declared.Command.{Command}
use Rattle.command.specs.declared.Command.TheVariants.{ResetPosition, LoadTrajectory, StartMotion, SetGain, StopMotor}
use Rattle.codec.specs.Reading.{load_count, motion_of, gains_of, stop_count, stop_of, if_counted}

-- one without data bytes
abbrev pub own_plain : Command → List ℕ → Option Command
own_plain c d = if_counted (length d) 0 (Some c)

-- the three with data bytes, each with its own count; the tenth data byte of Set Gain is 0
unfoldable pub own_load : List ℕ → Option Command
own_load d = if_counted (length d) (load_count (get_or d 0 0)) (Some (LoadTrajectory (motion_of d)))

unfoldable pub own_gain : List ℕ → Option Command
own_gain d = if_counted (length d) 14 (cond (eqb (get_or d 9 0) 0) (Some (SetGain (gains_of d))) None)

unfoldable pub own_stop : List ℕ → Option Command
own_stop d = if_counted (length d) (stop_count (get_or d 0 0)) (Some (StopMotor (stop_of d)))

-- all five
unfoldable pub drive_own : ℕ → List ℕ → Option Command
drive_own k d =
    cond (eqb k 0x0) (own_plain ResetPosition d)
    (cond (eqb k 0x4) (own_load d)
    (cond (eqb k 0x5) (own_plain StartMotion d)
    (cond (eqb k 0x6) (own_gain d)
    (cond (eqb k 0x7) (own_stop d)
    None))))
