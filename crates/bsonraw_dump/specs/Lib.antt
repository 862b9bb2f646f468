pub mod files
