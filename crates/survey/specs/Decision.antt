-- Serves inner calls: how a delivery is done, which comes to what Delivery says. How it is decided by its plan, and how those that act are gone through.
use Rattle.std.specs.Prelude.{ℕ, ◌/◌, ◌%◌, Bool, true, false, cond, not, List, [], ◌∷◌, ◌==◌, Option, Some, None, Result, Ok, Err}
use Rattle.wire.specs.Promise.{Outcome}
use Rattle.buffer.specs.Buffer.{written}
use Rattle.wire.specs.declared.refusal.Refusal.{Refusal}
use Rattle.node.specs.declared.state.Node.{Node}
use Rattle.command.specs.declared.Role.{Role}
use Rattle.command.specs.declared.Role.TheVariants.{Plain, Places, Paces, Masks, Captures, Zeroes, Idles, Resets}
use Rattle.command.specs.Role.{role_of}
use Rattle.message.specs.declared.Message.{Message}
use Rattle.message.specs.declared.Message.TheVariants.{Intact, Other, Spoilt}
use Rattle.message.specs.declared.Messages.{Messages}
use Rattle.survey.specs.declared.sets.Replier.{Replier}
use Rattle.survey.specs.declared.sets.Replier.TheVariants as replier
use Rattle.survey.specs.declared.plan.Plan.{Plan}
use Rattle.survey.specs.declared.plan.Survey.{Survey}
use Rattle.survey.specs.declared.decision.Decided.{Decided}
use Rattle.survey.specs.declared.decision.Delivery.{Delivery}
use Rattle.survey.specs.declared.decision.Delivery.TheVariants.{Silent, Replied, Collision}
use Rattle.survey.specs.One.{to_both, take_for}
use Rattle.survey.specs.Chain.{reply_for}

-- "Nop, Read Status": they change nothing in a node
abbrev pub is_idle : Role → Bool
is_idle Plain = false
is_idle (Places p) = false
is_idle (Paces d) = false
is_idle (Masks m) = true
is_idle Captures = false
is_idle Zeroes = false
is_idle Idles = true
is_idle Resets = false

-- nor do another command and a wrong sum
abbrev pub does_touch : Message → Bool
does_touch (Intact c) = not (is_idle (role_of c))
does_touch Other = false
does_touch Spoilt = false

-- of those that act, those to go through: none, where neither kind's can change
unfoldable pub touched_of : Messages → ℕ → ℕ
touched_of h s = cond (does_touch h.gate) s (cond (does_touch h.drive) s 0)

-- a refusal: nobody acts
abbrev pub decide_refusal : Refusal → Decided
decide_refusal why = record { answer = Err why; acting = 0; messages = to_both Other }

-- no refusal: those that are to act do
abbrev pub decide_answer : Delivery → Plan → Decided
decide_answer answer p = record { answer = Ok answer; acting = touched_of p.messages p.acting; messages = p.messages }

abbrev pub decide_built : Result ℕ Refusal → Plan → Decided
decide_built (Ok n) p = decide_answer (Replied n) p
decide_built (Err why) p = decide_refusal why

-- one node replies, if its reply has room
unfoldable pub decide_one : Node → Plan → List ℕ → Outcome Decided (List ℕ)
decide_one n p out = record { answer = decide_built (written (reply_for p.messages n) out).answer p; left = (written (reply_for p.messages n) out).left }

-- by who replies, and the node that does: one that the table lacks is nobody
abbrev pub decide_by : Replier → Option Node → Plan → List ℕ → Outcome Decided (List ℕ)
decide_by replier.None s p out = record { answer = decide_answer Silent p; left = out }
decide_by (replier.One i) (Some n) p out = decide_one n p out
decide_by (replier.One i) None p out = record { answer = decide_answer Silent p; left = out }
decide_by replier.Several s p out = record { answer = decide_answer Collision p; left = out }

abbrev pub decide_plan : Result Plan Refusal → Option Node → List ℕ → Outcome Decided (List ℕ)
decide_plan (Ok p) s out = decide_by p.replier s p out
decide_plan (Err why) s out = record { answer = decide_refusal why; left = out }

abbrev pub decide_of : Survey → List ℕ → Outcome Decided (List ℕ)
decide_of s out = decide_plan s.plan s.speaker out

-- the nodes of a set take the packet; the others stay
abbrev pub act_all : Messages → ℕ → List Node → List Node
act_all h s [] = []
act_all h s (n ∷ ns) = cond (s % 2 == 1) (take_for h n) n ∷ act_all h (s / 2) ns
