pub mod LoadModule
pub mod UnloadModule
pub mod AddModule
pub mod Private
