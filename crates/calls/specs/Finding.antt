-- The call that gives some bytes, as the code looks for it. Whoever wants to know what it means reads Calls: what is found is such a call, and where none is found there is none (proofs/Finding).
use Rattle.std.specs.Prelude.{ℕ, cond, List, take, replicate, Option, Some, None, Result, Ok, Err}
use Rattle.wire.specs.declared.refusal.Refusal.{Refusal}
use Rattle.wire.specs.Promise.{Outcome}
use Rattle.text.specs.Same.{is_same}
use Rattle.wire.specs.declared.address.Address.{Address}
use Rattle.wire.specs.declared.kind.Kind.{Kind}
use Rattle.wire.specs.declared.kind.Kind.TheVariants.{Gate, Drive}
use Rattle.command.specs.declared.Command.{Command}
use Rattle.command.specs.declared.Role.{Role}
use Rattle.command.specs.declared.Role.TheVariants.{Plain, Places, Paces, Masks, Captures, Zeroes, Idles, Resets}
use Rattle.command.specs.Role.{role_of, is_placing}
use Rattle.node.specs.Effect.{divisor_up}
use Rattle.session.specs.declared.Session.{Session}
use Rattle.session.specs.declared.Step.{Step}
use Rattle.calls.specs.declared.Call.{Call}
use Rattle.calls.specs.declared.Call.TheVariants.{Next, Ask, Order, Regroup}
use Rattle.calls.specs.declared.Spoken.{Spoken}
use Rattle.calls.specs.declared.Sought.{Sought}
use Rattle.calls.specs.Calls.{call_perform}
use Rattle.calls.specs.Understanding.{understand_of}

-- none gives these bytes
abbrev pub missed_of : Session → Sought
missed_of s = record { source = None; session = s }

-- found, if the call was sent as these bytes
abbrev pub sought_by : Session → Call → List ℕ → Session → List ℕ → Result (Option ℕ) Refusal → Sought
sought_by s c p after left (Ok (Some n)) = cond (is_same (take n left) p) (record { source = Some c; session = after }) (missed_of s)
sought_by s c p after left (Ok None) = missed_of s
sought_by s c p after left (Err why) = missed_of s

-- by what became of the call
abbrev pub sought_of : Session → Call → List ℕ → Outcome Step (List ℕ) → Sought
sought_of s c p o = sought_by s c p o.answer.session o.left o.answer.end

-- a call tried at power-up's divisor, with room for the longest packet, "4 + 15" bytes
unfoldable pub try_call : Session → Call → List ℕ → Sought
try_call s c p = sought_of s c p (call_perform c s divisor_up (replicate 19 0))

-- the call of the walk that sends such a command
abbrev pub early_call : Command → Call
early_call c = cond (is_placing (role_of c)) Next Ask

-- the call of a ready session that sends this command to an address, by the command's role; a Set Baud Rate is refused as an order, and so none gives it
abbrev pub late_by : Address → Command → Role → Call
late_by to c Plain = Order to c
late_by to c (Places p) = Regroup p.address p.group p.leader
late_by to c (Paces d) = Order to c
late_by to c (Masks m) = Order to c
late_by to c Captures = Order to c
late_by to c Zeroes = Order to c
late_by to c Idles = Order to c
late_by to c Resets = Order to c

-- by its role
abbrev pub late_call : Address → Command → Call
late_call to c = late_by to c (role_of c)

-- by whether a call was found
abbrev pub by_source : {A : Type 0} → Option Call → A → A → A
by_source (Some c) x y = x
by_source None x y = y

-- the first that is found
unfoldable pub seek_of : Session → Call → Call → List ℕ → Sought
seek_of s early late p = by_source (try_call s early p).source (try_call s early p) (try_call s late p)

-- by what the bytes say: the walk's call for it, else the ready session's
abbrev pub find_by : Session → List ℕ → Result (Option Spoken) Refusal → Sought
find_by s p (Ok (Some x)) = seek_of s (early_call x.command) (late_call x.to x.command) p
find_by s p (Ok None) = missed_of s
find_by s p (Err why) = missed_of s

-- as a kind of node reads them
unfoldable pub find_as : Kind → Session → List ℕ → Sought
find_as kind s p = find_by s p (understand_of kind p)

-- the call that gives these bytes in this session, and the session after it: an LS-773's command first; where none is found, an LS-173AP's
unfoldable pub find_of : Session → List ℕ → Sought
find_of s p = by_source (find_as Gate s p).source (find_as Gate s p) (find_as Drive s p)
