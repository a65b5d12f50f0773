-- The faults of a reading as the end of a build.
use Rattle.control_file.specs.declared.CtlFault.{CtlFault}
use Rattle.stanza.specs.declared.StanzaFault.{StanzaFault}
use Rattle.problem.specs.declared.limits.ProblemEnd.{ProblemEnd}
use Rattle.problem.specs.declared.limits.ProblemEnd.TheVariants as problem_end
use Rattle.universe_model.specs.declared.FileKind.{FileKind}
use Rattle.universe_model.specs.declared.InputKind.TheVariants.{Ctl, Stanza}
use Rattle.universe_model.specs.declared.BuildEnd.{BuildEnd}
use Rattle.universe_model.specs.declared.BuildEnd.TheVariants.{BadInput, Limit, NoMemory}

-- a fault of a line of a text
abbrev pub control_end : FileKind → CtlFault → BuildEnd
control_end file fault = BadInput file fault.line (Ctl fault.kind)

-- a fault of a paragraph of a text
abbrev pub stanza_end : FileKind → StanzaFault → BuildEnd
stanza_end file fault = BadInput file fault.line (Stanza fault.kind)

-- the end of a call that adds to a problem, as the end of a build
abbrev pub build_end : ProblemEnd → BuildEnd
build_end (problem_end.Limit which count) = Limit which count
build_end problem_end.NoMemory = NoMemory
