mod Forms
mod Lines
