pub mod ModuleFields
