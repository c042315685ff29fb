-- What actions send and receive, and what they append to a file.
use Rattle.std.specs.Prelude.{ℕ, List, [], ◌∷◌, None, Some, Bool, false, if◌then◌else◌}
use Rattle.std.specs.List.{flat_map}
use Rattle.std.specs.Str.{bytes_eq}
use Rattle.bar_outside.specs.Plan.{Action, LinkCall}
use Rattle.bar_outside.specs.Plan.Action.{read, create, append, show, link}
use Rattle.bar_outside.specs.Plan.LinkCall.{bind, receive, send}
use Rattle.bar_outside.specs.Wire.{Arrival}
use Rattle.bar_core.specs.Rules.{Send}

abbrev pub sent_by_call : LinkCall → List Send
sent_by_call (bind to) = []
sent_by_call (receive came) = []
sent_by_call (send to bytes) = (to, bytes) ∷ []

abbrev pub sent_by : Action → List Send
sent_by (read path) = []
sent_by (create path) = []
sent_by (append path bytes) = []
sent_by (show bytes) = []
sent_by (link call) = sent_by_call call

-- what the link gives, including its end
abbrev pub received_by_call : LinkCall → List Arrival
received_by_call (bind to) = []
received_by_call (receive None) = []
received_by_call (receive (Some arrival)) = arrival ∷ []
received_by_call (send to bytes) = []

abbrev pub received_by : Action → List Arrival
received_by (read path) = []
received_by (create path) = []
received_by (append path bytes) = []
received_by (show bytes) = []
received_by (link call) = received_by_call call

-- the bytes that are appended to the file of this name
abbrev pub added_by : List ℕ → Action → List ℕ
added_by path (read name) = []
added_by path (create name) = []
added_by path (append name bytes) = if bytes_eq path name then bytes else []
added_by path (show bytes) = []
added_by path (link call) = []

-- the file of this name is created
abbrev pub creates : List ℕ → Action → Bool
creates path (read name) = false
creates path (create name) = bytes_eq path name
creates path (append name bytes) = false
creates path (show bytes) = false
creates path (link call) = false

abbrev pub sent_in : List Action → List Send
sent_in acts = flat_map sent_by acts

abbrev pub received_in : List Action → List Arrival
received_in acts = flat_map received_by acts

abbrev pub added_in : List ℕ → List Action → List ℕ
added_in path acts = flat_map (added_by path) acts
