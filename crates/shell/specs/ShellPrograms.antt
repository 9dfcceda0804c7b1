pub mod StoresWithLists
pub mod ClearedTasks
pub mod StartedProgram
pub mod ShellPacket
pub mod KeptLists
