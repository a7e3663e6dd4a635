-- Document 01, "The node", and document 02, request 6: the reply that a node sends.
use Rattle.std.specs.Prelude.{ℕ, List}
use Rattle.command.specs.declared.Role.{Role}
use Rattle.command.specs.declared.Role.TheVariants.{Plain, Places, Paces, Masks, Captures, Zeroes, Idles, Resets}
use Rattle.command.specs.Role.{role_of}
use Rattle.status.specs.Status.{status_packet}
use Rattle.node.specs.declared.state.Node.{Node}
use Rattle.message.specs.declared.Message.{Message}
use Rattle.message.specs.declared.Message.TheVariants.{Intact, Other, Spoilt}
use Rattle.node.specs.Node.{take_of, shown_of, mask_after}
use Rattle.reply.specs.Items.{reply_items}

-- "Read Status uses its own mask for its one reply", every other command the one that is held
abbrev pub own_mask : Role → ℕ → ℕ
own_mask Plain held = held
own_mask (Places p) held = held
own_mask (Paces d) held = held
own_mask (Masks m) held = m
own_mask Captures held = held
own_mask Zeroes held = held
own_mask Idles held = held
own_mask Resets held = held

abbrev pub mask_of : Message → ℕ → ℕ
mask_of (Intact c) held = own_mask (role_of c) held
mask_of Other held = held
mask_of Spoilt held = held

-- "Other replies use the mask held after the command acted"; "Wrong sum: nothing changes; the reply uses the held mask"
abbrev pub mask_for : Message → Node → ℕ
mask_for h n = mask_of h (mask_after h n)

-- "Bit 1 of the status byte means that the command just received had a wrong sum. The model sends the other bits as 0"
abbrev pub status_byte : Message → ℕ
status_byte (Intact c) = 0
status_byte Other = 0
status_byte Spoilt = 2

-- status byte; the items asked for, as the node shows them once it has acted; sum
unfoldable pub reply_of : Message → Node → List ℕ
reply_of h n = status_packet (status_byte h) (reply_items (mask_for h n) (shown_of (take_of h n)))
