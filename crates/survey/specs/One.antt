-- Document 01, "The chain", and document 02, requests 6 and 7: one node and a packet. Who hears, is meant and answers goes by what every node has: its place, its divisor, and whether it is addressed.
-- What the packet then says to it goes by its kind.
-- `at`: the divisor that the packet is sent at.
-- `near`: the node is first, or the node before it is addressed, before the packet acts.
use Rattle.std.specs.Prelude.{ℕ, Bool, cond, ◌&&◌, ◌||◌, List, ◌==◌}
use Rattle.wire.specs.declared.address.Address.{Address}
use Rattle.wire.specs.declared.address.Address.TheVariants as address
use Rattle.wire.specs.declared.kind.Kind.TheVariants.{Gate, Drive}
use Rattle.packet.specs.Packet.{data_part, is_intact}
use Rattle.codec.specs.Reading.{codec_read}
use Rattle.command.specs.declared.Place.{Place}
use Rattle.command.specs.Ranges.{place_fits}
use Rattle.node.specs.declared.state.Node.{Node}
use Rattle.message.specs.declared.Message.{Message}
use Rattle.message.specs.declared.Messages.{Messages}
use Rattle.message.specs.Message.{messages_of, message_to}
use Rattle.node.specs.Node.{take_of}

-- "A node hears exactly if it is addressed, is first, or the node before it is addressed", and "hears only commands at its own" divisor
abbrev pub does_hear : ℕ → Bool → Node → Bool
does_hear at near n = (near || n.addressed) && n.settings.divisor == at

-- "the address byte is its individual address or its group"
abbrev pub is_meant : Address → Place → Bool
is_meant (address.Individual i) p = i.0 == p.address.0
is_meant (address.Group g) p = g.0 == p.group.0

-- "the address is its individual one, or it is leader of that group"
abbrev pub is_answering : Address → Place → Bool
is_answering (address.Individual i) p = i.0 == p.address.0
is_answering (address.Group g) p = p.leader && g.0 == p.group.0

-- "A hearing node acts once if .."
unfoldable pub does_act : ℕ → Address → Bool → Node → Bool
does_act at to near n = does_hear at near n && is_meant to n.settings.place

-- it replies to a packet that is answered at all
unfoldable pub does_reply : ℕ → Address → Bool → Node → Bool
does_reply at to near n = does_hear at near n && is_answering to n.settings.place

-- the same to either kind
abbrev pub to_both : Message → Messages
to_both h = record { gate = h; drive = h }

-- a node that acts takes what the packet says to its kind
abbrev pub take_for : Messages → Node → Node
take_for h n = take_of (message_to n.kind h) n

-- a node after a packet: one that doesn't act stays as it is
unfoldable pub turned : ℕ → Address → Messages → Bool → Node → Node
turned at to h near n = cond (does_act at to near n) (take_for h n) n

-- 6: "a lent node record with individual address above 0x7F or group below 0x80"
unfoldable pub is_ranged : Place → Bool
is_ranged p = place_fits p

-- what a whole packet p to this address with command nibble k says to either kind
abbrev pub messages_as : Address → ℕ → List ℕ → Messages
messages_as to k p = messages_of (codec_read Gate k (data_part p)) (codec_read Drive k (data_part p)) to (is_intact p)
