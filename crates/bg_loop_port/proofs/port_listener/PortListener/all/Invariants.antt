use Rattle.std.proofs.Common.{◌≡◌, ◌++◌, map}
use Rattle.bg_loop_port.proofs.port_listener.PortListener.all.Given as goal

-- the listeners so far, and those that are left, are all
abbrev pub invariant-loop-listener : goal.invariant-loop-listener
invariant-loop-listener l = map (λ p. p.listener) l.all.items ++ l.listener-iterator.rest.items ≡ l.fn.listeners.items
