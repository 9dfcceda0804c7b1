pub mod CallersCoroutines
pub mod SwitchChange
pub mod CallCo
pub mod ResumeCo
pub mod CoWait
pub mod CreateCo
pub mod DeleteCo
pub mod Private
