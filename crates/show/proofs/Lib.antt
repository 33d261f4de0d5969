mod Forms
mod Once
