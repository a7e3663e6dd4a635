-- The LS-173AP manual: the control byte of Load Trajectory and the stop byte of Stop Motor, bit by bit.
use Rattle.std.specs.Prelude.{ℕ, ◌/◌, ◌%◌, Bool, eqb}
use Rattle.command.specs.declared.Loads.{Loads}

-- bits 0 to 3: position, velocity, acceleration and PWM value follow; bit 7: "start motion now"
abbrev pub loads_of : ℕ → Loads
loads_of c = record {
  position = eqb (c % 2) 1;
  velocity = eqb (c / 2 % 2) 1;
  acceleration = eqb (c / 4 % 2) 1;
  pwm = eqb (c / 8 % 2) 1;
  starts = eqb (c / 128) 1;
}

-- bit 4, "stop here": a stopping position follows
abbrev pub is_stop_here : ℕ → Bool
is_stop_here b = eqb (b / 16 % 2) 1
