-- The line that tells each fault of workers served from texts.
use Rattle.std.specs.Prelude.{ℕ, ◌++◌, codes, decimal}
use Rattle.ob_desk_floor.specs.declared.fault.CloseFault.{CloseFault}
use Rattle.ob_desk_floor.specs.declared.fault.CloseFault.TheVariants as Close
use Rattle.ob_desk_serve.specs.declared.fault.ServeFault.{ServeFault}
use Rattle.ob_desk_serve.specs.declared.fault.ServeFault.TheVariants as Serve
use Rattle.ob_desk_serve.specs.declared.serving_texts.ServeTextFault.{ServeTextFault}
use Rattle.ob_desk_serve.specs.declared.serving_texts.ServeTextFault.TheVariants as Faults
use Rattle.ob_fault_lines.specs.ModuleFaultLines.{Text, no_memory_line}
use Rattle.ob_fault_lines.specs.RunFaultLines.{run_fault_line}
use Rattle.ob_object_compile.specs.Asked.{Beginning}

-- of a process
abbrev pub of_process : Text → ℕ → Text
of_process fault process = fault ++ codes " process " ++ decimal process

abbrev pub close_line : CloseFault → Text
close_line (Close.Stranger process) = of_process (codes "K1") process
close_line (Close.Uneven process) = of_process (codes "K2") process
close_line Close.OtherFloor = codes "K5"
close_line (Close.Disagrees process) = of_process (codes "K3") process

abbrev pub serve_line : ServeFault → Text
serve_line (Serve.NotStarted process) = of_process (codes "V3") process
serve_line Serve.NoMemory = no_memory_line
serve_line (Serve.Refused process) = of_process (codes "V1") process
serve_line (Serve.Lost process) = of_process (codes "V2") process
serve_line (Serve.Close e) = close_line e

abbrev pub serve_fault_line : Beginning → ServeTextFault → Text
serve_fault_line beginning (Faults.Texts e) = run_fault_line beginning e
serve_fault_line beginning (Faults.Serve e) = serve_line e
serve_fault_line beginning Faults.NoMemory = no_memory_line
