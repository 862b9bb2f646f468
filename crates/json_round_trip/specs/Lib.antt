pub mod Returning
pub mod Closing
pub mod Printed
