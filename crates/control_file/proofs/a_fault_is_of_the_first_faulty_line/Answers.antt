use Rattle.control_file.proofs.FirstFaults.{first_fault_is_first}
use Rattle.control_file.proofs.a_fault_is_of_the_first_faulty_line.Goals as goal

pub returns : goal.returns
returns c ls = first_fault_is_first ls
