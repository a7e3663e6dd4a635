-- Define Status in the manual of either kind: the status items, their bits in the mask and order.
use Rattle.std.specs.Prelude.{ℕ, zero, suc, ◌/◌, ◌%◌, Bool, cond, List, [], ◌∷◌, ◌++◌}
use Rattle.wire.specs.declared.kind.Kind.{Kind}
use Rattle.wire.specs.declared.kind.Kind.TheVariants.{Gate, Drive}
use Rattle.buffer.specs.Wide.{word_of}
use Rattle.status.specs.Status.{counts}
use Rattle.mask.specs.Mask.{bit}
use Rattle.node.specs.declared.state.Shown.{Shown}

-- the n low bytes of w, "least significant byte first"
abbrev pub bytes_of : ℕ → ℕ → List ℕ
bytes_of zero w = []
bytes_of (suc n) w = w % 256 ∷ bytes_of n (w / 256)

-- the LS-773: bit 0 the inputs, bits 1 to 3 the three analog values, bit 4 the counter, bit 5 device ID and version,
-- bits 6 and 7 the inputs and the counter as Synch Input captured them: the values, beside the table of `counts`
abbrev pub gate_values : Shown → List ℕ
gate_values x =
    x.bench.inputs
    ∷ x.bench.analog0
    ∷ x.bench.analog1
    ∷ x.bench.analog2
    ∷ x.bench.counter
    ∷ word_of x.bench.id x.bench.version
    ∷ x.captured.inputs
    ∷ x.captured.counter
    ∷ []

-- the LS-173AP: bit 0 the position, bit 1 the A/D value, bit 2 the velocity, bit 3 the auxiliary status, bit 4 the home position,
-- bit 5 device ID and version, bit 6 the position error; bit 7 is "don't care", and has no byte
abbrev pub drive_values : Shown → List ℕ
drive_values x =
    x.position
    ∷ x.bench.ad
    ∷ x.bench.velocity
    ∷ x.bench.auxiliary
    ∷ x.bench.home
    ∷ word_of x.bench.id x.bench.version
    ∷ x.bench.error
    ∷ 0
    ∷ []

-- "the drive's status items": the values by kind
abbrev pub values_as : Kind → Shown → List ℕ
values_as Gate x = gate_values x
values_as Drive x = drive_values x

abbrev pub values_of : Shown → List ℕ
values_of x = values_as x.kind x

-- an item's bytes, if it is asked for
abbrev pub item_of : Bool → List ℕ → List ℕ
item_of t d = cond t d []

-- the bytes of the items that a mask asks for, in their order, from bit k on: n bytes of the value w each
abbrev pub asked_from : ℕ → ℕ → List ℕ → List ℕ → List ℕ
asked_from k m [] ws = []
asked_from k m (n ∷ ns) [] = []
asked_from k m (n ∷ ns) (w ∷ ws) = item_of (bit k m) (bytes_of n w) ++ asked_from (suc k) m ns ws

-- those of a node, by its kind and what it shows
unfoldable pub reply_items : ℕ → Shown → List ℕ
reply_items m x = asked_from 0 m (counts x.kind) (values_of x)
