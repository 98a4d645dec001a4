-- Which capabilities of a frame may be entered in a register.
use Rattle.std.specs.Prelude.{◌+◌, Bool, true, false, not, ◌&&◌, ◌||◌, List, [], ◌∷◌, eqb, ltb, take, if◌then◌else◌}
use Rattle.state.specs.declared.record.Capability.{Capability}
use Rattle.state.specs.declared.record.Frame.{Frame}

-- two capabilities have a word in common; flags do not count
unfoldable pub shares : Capability → Capability → Bool
shares c d = eqb c.segment d.segment && (ltb c.word (d.word + d.length) && ltb d.word (c.word + c.length))

-- an earlier capability does not keep a later one out: it has the same source, or no word in common with it
unfoldable pub yields : Capability → Capability → Bool
yields earlier c = eqb earlier.source c.source || not (shares earlier c)

-- none of a run of capabilities keeps c out
unfoldable pub all_yield : List Capability → Capability → Bool
all_yield [] c = true
all_yield (x ∷ xs) c = yields x c && all_yield xs c

abbrev pub same_flag : Bool → Bool → Bool
same_flag true b = b
same_flag false b = not b

-- two capabilities are equal
unfoldable pub same : Capability → Capability → Bool
same c d =
    eqb c.word d.word && (eqb c.length d.length && (eqb c.segment d.segment && (eqb c.source d.source &&
    (same_flag c.read d.read && same_flag c.write d.write))))

-- a frame has the capability, and it may be entered: none before it keeps it out
unfoldable pub may_enter : List Capability → Capability → Bool
may_enter [] c = false
may_enter (x ∷ xs) c = if same x c then true else (yields x c && may_enter xs c)

-- the capabilities that a frame has, in order
abbrev pub capabilities_of : Frame → List Capability
capabilities_of f = take f.count f.capabilities
